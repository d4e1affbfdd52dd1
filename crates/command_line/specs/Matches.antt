-- The commands that `clap` is given, and what is read of its matches.
use Rattle.std.specs.Prelude.{true, List, [], codes, Option, Some, None, if◌then◌else◌, option_map, option_and_then, unwrap_or}
use Rattle.std.specs.Str.{bytes_eq}
use Rattle.clap.specs.Walk.{Row, Rule, all_of, first_of}
use Rattle.clap.specs.Simple.{App, new_app, new_rule, new_shape, with_rule, with_subcommand}
use Rattle.clap.specs.declared.builder.action.ArgAction.TheVariants.{Append, Set}
use Rattle.command_line.specs.Lines.{Given, Text, estimate_in, levels_in, run_line, size_in}
use Rattle.command_line.specs.declared.matches.Size.{Size}
use Rattle.command_line.specs.declared.CommandLine.{CommandLine}
use Rattle.command_line.specs.declared.CommandLine.TheVariants.{Solve, Check, Make, Bulk, Audit, Tiers, Enforce}

-- an option that may be given again
abbrev pub option_rule : Text → Rule
option_rule name = record (new_rule name) { long = Some name; action = Some Append }

-- an argument that is required in its place
abbrev pub place_rule : Text → Rule
place_rule name = record (new_rule name) { required = true; action = Some Set }

abbrev pub run_app : App
run_app = with_rule (with_rule (new_app (codes "run")) (option_rule (codes "readers")))
    (option_rule (codes "reads"))

abbrev pub sized_app : Text → App
sized_app name =
    with_rule (with_rule (with_rule (new_app name) (place_rule (codes "seed")))
    (place_rule (codes "groups")))
    (place_rule (codes "tasks"))

abbrev pub estimate_app : App
estimate_app =
    with_rule (with_rule (new_app (codes "estimate")) (place_rule (codes "window")))
    (place_rule (codes "headroom"))

abbrev pub levels_app : App
levels_app = with_rule (new_app (codes "levels")) (place_rule (codes "share"))

abbrev pub bare_app : App
bare_app = record {
  top = record (new_shape (codes "bwe")) {
    no_binary_name = true;
    disable_help_flag = true;
    disable_help_subcommand = true;
    subcommand_required = true;
  };
  subs = [];
}

-- a subcommand for each command, in the order of the usage line
abbrev pub app_to_bulk : App
app_to_bulk =
    with_subcommand (with_subcommand (with_subcommand (with_subcommand (with_subcommand bare_app
    (new_shape (codes "solve"))) (new_shape (codes "check"))) run_app.top)
    (sized_app (codes "make")).top) (sized_app (codes "bulk")).top

abbrev pub bwe_app : App
bwe_app =
    with_subcommand (with_subcommand (with_subcommand (with_subcommand (with_subcommand app_to_bulk
    (new_shape (codes "audit"))) (new_shape (codes "tiers"))) (new_shape (codes "enforce")))
    estimate_app.top) levels_app.top

-- the texts that an option was given
abbrev pub texts_in : Text → List Row → List Text
texts_in id rows = unwrap_or (all_of id rows) []

abbrev pub given_in : List Row → Given
given_in rows =
    record { readers = texts_in (codes "readers") rows; reads = texts_in (codes "reads") rows }

abbrev pub size_given : List Row → Option Size
size_given rows =
    option_and_then
    (λ seed. option_and_then (λ groups. option_and_then (λ tasks. size_in seed groups tasks)
    (first_of (codes "tasks") rows)) (first_of (codes "groups") rows))
    (first_of (codes "seed") rows)

abbrev pub estimate_given : List Row → Option CommandLine
estimate_given rows =
    option_and_then (λ window. option_and_then (λ headroom. estimate_in window headroom)
    (first_of (codes "headroom") rows)) (first_of (codes "window") rows)

abbrev pub levels_given : List Row → Option CommandLine
levels_given rows = option_and_then (λ share. levels_in share) (first_of (codes "share") rows)

abbrev pub line_entered : Text → List Row → Option CommandLine
line_entered name rows =
    if bytes_eq name (codes "solve") then Some Solve
    else if bytes_eq name (codes "check") then Some Check
    else if bytes_eq name (codes "run") then run_line (given_in rows)
    else if bytes_eq name (codes "make")
    then option_map (λ size. Make size.seed size.groups size.tasks) (size_given rows)
    else if bytes_eq name (codes "bulk")
    then option_map (λ size. Bulk size.seed size.groups size.tasks) (size_given rows)
    else if bytes_eq name (codes "audit") then Some Audit
    else if bytes_eq name (codes "tiers") then Some Tiers
    else if bytes_eq name (codes "enforce") then Some Enforce
    else if bytes_eq name (codes "estimate") then estimate_given rows
    else if bytes_eq name (codes "levels") then levels_given rows
    else None

-- the command of the subcommand that was met
abbrev pub line_met : Option (Text × List Row) → Option CommandLine
line_met = option_and_then (λ met. line_entered met.0 met.1)
