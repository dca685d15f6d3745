-- LIST, NAMESPACE, STATUS, SUBSCRIBE and UNSUBSCRIBE: the answers.
pub mod ListCommand
pub mod Namespaces
pub mod Status
pub mod Subscriptions
