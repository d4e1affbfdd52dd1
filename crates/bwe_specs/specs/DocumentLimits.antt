-- The limits of a document, which its version decides. They stand here as numbers, so that a
-- constant of the code cannot move them.
use Rattle.std.specs.Prelude.{ℕ, if◌then◌else◌, ◌==◌}
use Rattle.bwe_specs.specs.declared.document_limits.DocumentLimits.{DocumentLimits}

-- of versions 1 to 3, and of every other that is not 4
abbrev pub limits_before_4 : DocumentLimits
limits_before_4 = record {
  links = 4_096;
  groups = 1_024;
  tasks = 20_000;
  hops = 1_000_000;
  reporters = 64;
  reports = 200_000;
  closings = 4_096;
}

abbrev pub limits_of_4 : DocumentLimits
limits_of_4 = record {
  links = 65_536;
  groups = 65_536;
  tasks = 1_048_576;
  hops = 16_777_216;
  reporters = 4_096;
  reports = 4_194_304;
  closings = 65_536;
}

abbrev pub limits_of : ℕ → DocumentLimits
limits_of version = if version == 4 then limits_of_4 else limits_before_4
