-- What a call of a transaction does to tables, where it may do nothing.
use Rattle.std.specs.Prelude.{IsTrue}
use Rattle.sqlite.specs.State.{State}
use Rattle.sqlite.specs.Tree.{Trees}
use Rattle.imap_tables.specs.Rows.{IsOrderly}
use Rattle.imap_tables.specs.Steps.{HasSchema}
use Rattle.imap_tables.specs.Tables.{store_schema}

-- tables that are in order stay so, and Makes is done to them. The transaction goes on
pub record Goes (Makes : Trees → Trees → Type 0) (old new : State) : Type 0 where
  pub made : IsOrderly old.now.trees → Makes old.now.trees new.now.trees × IsOrderly new.now.trees
  pub schema : HasSchema store_schema new
  pub mode : IsTrue new.in_transaction
