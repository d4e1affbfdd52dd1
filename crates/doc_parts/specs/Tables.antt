-- What the tables of names show.
use Rattle.std.specs.Prelude.{◌≡◌, []}
use Rattle.doc_names.specs.NameTexts.{NameTexts}
use Rattle.doc_parts.specs.declared.names.Tables.{Tables}

abbrev pub tables_view : Tables → NameTexts
tables_view tables =
    record {
      links = tables.links;
      groups = tables.groups;
      tasks = tables.tasks;
      reporters = tables.reporters;
    }

-- no table has a name
pub record AreEmpty (tables : Tables) : Type 0 where
  pub links : tables.links ≡ []
  pub groups : tables.groups ≡ []
  pub tasks : tables.tasks ≡ []
  pub reporters : tables.reporters ≡ []
