pub mod Nfc
