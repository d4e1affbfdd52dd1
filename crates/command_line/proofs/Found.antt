-- What the getters of matches give, by the rows.
use Rattle.std.proofs.Common.{◌≡◌, ap, ap₂, sym, refl, true≢false, is_some, Global, ◌∙◌, [], Option, Some, None, List, map, option_map, unwrap_or}
use Rattle.std.specs.Prelude.{Box}
use Rattle.std.specs.Borrow.{Bor}
use Rattle.std.specs.Box.{box_value}
use Rattle.clap.specs.Walk.{Row, first_of}
use Rattle.clap.specs.Words.{first_value, found_of, matched_of, raw_values, rows_of, subcommand_name_of, subcommand_rows, subcommand_rows_of}
use Rattle.clap.specs.declared.parser.matches.ArgMatches.{ArgMatches}
use Rattle.clap.specs.declared.parser.matches.ArgMatches.TheViews.{out-ArgMatches, out-SubCommand}
use Rattle.clap.specs.declared.parser.matches.Found.{Found}
use Rattle.clap.specs.declared.parser.matches.SubCommand.{SubCommand}
use Rattle.clap.proofs.WalkLemmas.{first_value-rows, raw_values-rows}
use Rattle.command_line.specs.Lines.{Text}
use Rattle.command_line.specs.Matches.{texts_in}

pub texts_are : (f : Found) (id : Text) (found : Option (Bor (List (Bor Text)))) → option_map (λ s. map (λ v. v.now) s.now) found ≡ option_map raw_values (matched_of f id)
    → unwrap_or (option_map (λ s. map (λ v. v.now) s.now) found) [] ≡ texts_in id (rows_of f)
texts_are f id found e = ap (λ (o : Option (List Text)). unwrap_or o []) (e ∙ raw_values-rows f id)

pub text_is : (f : Found) (id : Text) (found : Option (Bor Text)) → option_map (λ s. s.now) found ≡ first_value f id → first_of id (rows_of f) ≡ option_map (λ s. s.now) found
text_is f id found e = sym (e ∙ first_value-rows f id)

pub met_is : (m : ArgMatches) (found : Option (Bor Text × Bor ArgMatches)) → option_map (λ p. p.0.now) found ≡ subcommand_name_of m
    → option_map (λ p. rows_of (found_of p.1.now)) found ≡ option_map (λ p. p.1) (subcommand_rows (out-ArgMatches m).subcommand)
    → subcommand_rows_of m ≡ option_map (λ p. (p.0.now, rows_of (found_of p.1.now))) found
met_is m found name rows = go found (out-ArgMatches m).subcommand name rows
  where
    go : (found : Option (Bor Text × Bor ArgMatches)) (sub : Option (Box SubCommand Global)) → option_map (λ p. p.0.now) found ≡ option_map (λ b. (out-SubCommand (box_value b)).name.now) sub
        → option_map (λ p. rows_of (found_of p.1.now)) found ≡ option_map (λ p. p.1) (subcommand_rows sub)
        → subcommand_rows sub ≡ option_map (λ p. (p.0.now, rows_of (found_of p.1.now))) found
    go None None name rows = refl
    go None (Some b) name rows = absurd (true≢false (ap is_some (sym name)))
    go (Some p) None name rows = absurd (true≢false (ap is_some name))
    go (Some p) (Some b) name rows = ap₂ {A = Text} {B = List Row} {C = Option (Text × List Row)} (λ a r. Some (a, r))
        (ap (λ (o : Option Text). unwrap_or o []) (sym name)) (ap (λ (o : Option (List Row)). unwrap_or o []) (sym rows))
