-- Which arguments are a command.
use Rattle.std.specs.Prelude.{ℕ, Bool, ◌&&◌, ◌==◌, List, [], ◌∷◌, ◌++◌, map, codes, String, Option, Some, None}
use Rattle.std.specs.Prelude.{if◌then◌else◌, string_bytes, nat_le, option_map, option_and_then}
use Rattle.std.specs.List.{list_any, before_first, after_first}
use Rattle.std.specs.Str.{bytes_eq}
use Rattle.std.specs.Str.Parse.{digits_value}
use Rattle.std.specs.declared.alloc.Global.{Global}
use Rattle.text_scan.specs.Numbers.{is_number}
pub use Rattle.text_scan.specs.Words.{Text}
use Rattle.command_line.specs.declared.matches.Size.{Size}
use Rattle.command_line.specs.declared.CommandLine.{CommandLine}
use Rattle.command_line.specs.declared.CommandLine.TheVariants.{Solve, Check, Run, Make, Bulk, Audit, Tiers, Enforce, Estimate, Levels}

-- the texts of arguments
abbrev pub texts_of : List (String Global) → List Text
texts_of words = map string_bytes words

-- ---- numbers

-- the number of a text, where it is one from `least` to `most`
abbrev pub number_in : ℕ → ℕ → Text → Option ℕ
number_in least most text =
    if is_number text && (nat_le least (digits_value 10 text) && nat_le (digits_value 10 text) most)
    then Some (digits_value 10 text) else None

-- ---- `run`

pub data Name : Type 0 where
  readers : Name
  reads : Name

abbrev pub name_of : Text → Option Name
name_of text =
    if bytes_eq (codes "readers") text then Some readers
    else if bytes_eq (codes "reads") text then Some reads else None

-- what follows two hyphens (45)
abbrev pub after_hyphens : Text → Option Text
after_hyphens [] = None
after_hyphens (byte ∷ []) = None
after_hyphens (byte ∷ (next ∷ more)) = if (byte == 45) && (next == 45) then Some more else None

-- what stands after the first `=` (61), where there is one
abbrev pub after_equals : Text → Option Text
after_equals text =
    if list_any (λ byte. byte == 61) text then Some (after_first (λ byte. byte == 61) text)
    else None

-- the option that an argument `--NAME` or `--NAME=TEXT` names, and the text
abbrev pub option_of : Text → Option (Name × Option Text)
option_of word =
    option_and_then (λ more. option_map (λ name. (name, after_equals more))
    (name_of (before_first (λ byte. byte == 61) more))) (after_hyphens word)

-- the texts that the two options are given, each in order
pub record Given : Type 0 where
  pub readers : List Text
  pub reads : List Text

abbrev pub nothing_given : Given
nothing_given = record { readers = []; reads = [] }

abbrev pub with_text : Name → Text → Given → Given
with_text readers text given = record given { readers = given.readers ++ text ∷ [] }
with_text reads text given = record given { reads = given.reads ++ text ∷ [] }

-- an argument where an option may stand: `--NAME` waits for its text in the next one
abbrev pub option_word : (Given → Option Name → Option Given) → Given → Option (Name × Option Text)
    → Option Given
option_word next given None = None
option_word next given (Some (name, None)) = next given (Some name)
option_word next given (Some (name, Some text)) = next (with_text name text given) None

-- what the arguments give beside what stood before them, where the option that waits has its text
-- in the first
unfoldable pub options_of : Given → Option Name → List Text → Option Given
options_of given None [] = Some given
options_of given (Some name) [] = None
options_of given (Some name) (word ∷ rest) = options_of (with_text name word given) None rest
options_of given None (word ∷ rest) =
    option_word (λ given' waiting. options_of given' waiting rest) given (option_of word)

-- an option is given at most once
abbrev pub number_given : ℕ → ℕ → ℕ → List Text → Option ℕ
number_given default least most [] = Some default
number_given default least most (text ∷ []) = number_in least most text
number_given default least most (text ∷ (other ∷ more)) = None

abbrev pub run_line : Given → Option CommandLine
run_line given =
    option_and_then
    (λ readers. option_map (λ reads. Run readers reads) (number_given 4 0 1000 given.reads))
    (number_given 2 1 64 given.readers)

-- ---- `make` and `bulk`

-- SEED, GROUPS and TASKS
abbrev pub size_in : Text → Text → Text → Option Size
size_in seed groups tasks =
    option_and_then
    (λ s. option_and_then (λ g. option_map (λ t. record { seed = s; groups = g; tasks = t })
    (number_in g 20000 tasks)) (number_in 1 1024 groups)) (number_in 0 18446744073709551615 seed)

abbrev pub size_of : List Text → Option Size
size_of (seed ∷ (groups ∷ (tasks ∷ []))) = size_in seed groups tasks
size_of _ = None

-- ---- `estimate` and `levels`

-- WINDOW and HEADROOM
abbrev pub estimate_in : Text → Text → Option CommandLine
estimate_in window headroom =
    option_and_then (λ w. option_map (λ h. Estimate w h) (number_in 100 1000 headroom))
    (number_in 1 1000 window)

abbrev pub estimate_of : List Text → Option CommandLine
estimate_of (window ∷ (headroom ∷ [])) = estimate_in window headroom
estimate_of _ = None

-- SHARE
abbrev pub levels_in : Text → Option CommandLine
levels_in share = option_map (λ s. Levels s) (number_in 0 1000000000 share)

abbrev pub levels_of : List Text → Option CommandLine
levels_of (share ∷ []) = levels_in share
levels_of _ = None

-- ---- all commands

-- a command that is its name alone
abbrev pub alone : CommandLine → List Text → Option CommandLine
alone line [] = Some line
alone line (word ∷ more) = None

abbrev pub line_named : Text → List Text → Option CommandLine
line_named word rest =
    if bytes_eq (codes "solve") word then alone Solve rest
    else if bytes_eq (codes "check") word then alone Check rest
    else if bytes_eq (codes "run") word
    then option_and_then run_line (options_of nothing_given None rest)
    else if bytes_eq (codes "make") word
    then option_map (λ size. Make size.seed size.groups size.tasks) (size_of rest)
    else if bytes_eq (codes "bulk") word
    then option_map (λ size. Bulk size.seed size.groups size.tasks) (size_of rest)
    else if bytes_eq (codes "audit") word then alone Audit rest
    else if bytes_eq (codes "tiers") word then alone Tiers rest
    else if bytes_eq (codes "enforce") word then alone Enforce rest
    else if bytes_eq (codes "estimate") word then estimate_of rest
    else if bytes_eq (codes "levels") word then levels_of rest
    else None

abbrev pub line_of_texts : List Text → Option CommandLine
line_of_texts [] = None
line_of_texts (word ∷ rest) = line_named word rest

abbrev pub is_hyphens : Text → Bool
is_hyphens word = bytes_eq word (codes "--")

-- the command that the arguments are; none has the argument `--`
abbrev pub command_line_of : List Text → Option CommandLine
command_line_of words = if list_any is_hyphens words then None else line_of_texts words
