-- The tables that the rows of the code describe.
use Rattle.std.specs.Prelude.{map}
use Rattle.sqlite.specs.Table.{Table}
use Rattle.sqlite_schema.specs.declared.schema.Column.{Column}
use Rattle.imap_tables.specs.Tables.{column_of, references_of, table_of}
use Rattle.imap_tables.specs.declared.columns.ColumnRow.{ColumnRow}
use Rattle.imap_tables.specs.declared.schema.TableRow.{TableRow}

abbrev pub described_column : ColumnRow → Column
described_column row = column_of row.1 row.0.now

abbrev pub described_table : TableRow → Table
described_table row =
    table_of row.name.now row.tree (map described_column row.columns.now) row.key.now
    (references_of row.is_below)
