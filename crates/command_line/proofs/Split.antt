-- `clap` takes the words that are a line, and no others, and gives the line.
use Rattle.std.proofs.Common.{◌≡◌, Bool, true, false, List, [], ◌∷◌, ◌++◌, codes, Option, Some, None, refl, sym, ap, subst, ◌∙◌, true≢false}
use Rattle.std.specs.Prelude.{option_map, option_and_then}
use Rattle.std.specs.List.{fold, list_any}
use Rattle.std.specs.Str.{bytes_eq}
use Rattle.std.proofs.lemmas.Slice.Eq.{bytes_eq-Decides}
use Rattle.std.proofs.lemmas.List.{append_assoc, append-nil}
use Rattle.clap.specs.Kinds.{Kinds, or_else}
use Rattle.clap.specs.Faults.{defaults_fault, fault_of, turn_fault, walk_fault}
use Rattle.clap.specs.Simple.{Shape, built, names_of, subcommand_of}
use Rattle.clap.specs.Walk.{Names, Text, Walk, idle, subcommand_met, walked}
use Rattle.command_line.specs.declared.matches.Size.{Size}
use Rattle.command_line.specs.declared.CommandLine.{CommandLine}
use Rattle.command_line.specs.declared.CommandLine.TheVariants.{Solve, Check, Make, Bulk, Audit, Tiers, Enforce}
use Rattle.command_line.specs.Lines.{alone, estimate_of, is_hyphens, levels_of, line_named, line_of_texts, nothing_given, options_of, run_line, size_of}
use Rattle.command_line.specs.Matches.{bwe_app, estimate_given, given_in, levels_given, line_met, size_given}
use Rattle.command_line.proofs.Clear.{is_clear, or_else-none}
use Rattle.command_line.proofs.Turns.{stray, text_met}
use Rattle.command_line.proofs.Bare.{bare_clear, bare_shape, bare_takes_no_word, estimate_shape, fault_from, levels_shape, rows_from, run_shape, sized_shape, start}
use Rattle.command_line.proofs.RunWords.{run_agrees}
use Rattle.command_line.proofs.Sizes.{size_agrees}
use Rattle.command_line.proofs.Places.{estimate_agrees, levels_agrees}
use Rattle.command_line.proofs.Texts.{first_plain}

abbrev top : Shape
top = (built bwe_app).top

abbrev names : Names
names = names_of (built bwe_app)

-- a walk that has met its subcommand keeps the words after it
stopped_walk : (w : Walk) (name : Text) (before words : List Text) → fold (walked top.rules names) (record w { stopped = Some (name, before) }) words ≡ record w { stopped = Some (name, before ++ words) }
unfolding walked
stopped_walk w name before [] = ap (λ (some : List Text). record w { stopped = Some (name, some) }) (sym (append-nil before))
stopped_walk w name before (word ∷ rest) = stopped_walk w name (before ++ word ∷ []) rest
    ∙ ap (λ (some : List Text). record w { stopped = Some (name, some) }) (append_assoc before (word ∷ []) rest)

stopped_clear : (w : Walk) (name : Text) (before words : List Text) → walk_fault top names (record w { stopped = Some (name, before) }) words ≡ []
unfolding walk_fault walked
stopped_clear w name before [] = refl
stopped_clear w name before (word ∷ rest) = stopped_clear w name (before ++ word ∷ []) rest

abbrev met : Text → List Text → Walk
met name rest = record start { stopped = Some (name, rest) }

-- `clap` takes the words where the definition does, with the same line
abbrev pub Agrees : Bool → Option CommandLine → List Text → Type 0
Agrees clear found words = (clear ≡ true → found ≡ line_of_texts words) × (clear ≡ false → line_of_texts words ≡ None)

abbrev AgreesAt : Text → List Text → Type 0
AgreesAt word rest = Agrees (is_clear (fault_of bwe_app (word ∷ rest))) (line_met (subcommand_of bwe_app (word ∷ rest))) (word ∷ rest)

-- each subcommand is met, and has the words after it
module _ (rest : List Text) where
  solve_fault : is_clear (fault_of bwe_app (codes "solve" ∷ rest)) ≡ is_clear (fault_from (bare_shape (codes "solve")) start rest)
  unfolding walk_fault walked defaults_fault
  solve_fault = rw (stopped_clear start (codes "solve") [] rest, stopped_walk start (codes "solve") [] rest) (or_else-none (fault_from (bare_shape (codes "solve")) start rest))

  solve_met : subcommand_of bwe_app (codes "solve" ∷ rest) ≡ Some (codes "solve", rows_from (bare_shape (codes "solve")) start rest)
  unfolding walked
  solve_met = rw (stopped_walk start (codes "solve") [] rest) refl

  check_fault : is_clear (fault_of bwe_app (codes "check" ∷ rest)) ≡ is_clear (fault_from (bare_shape (codes "check")) start rest)
  unfolding walk_fault walked defaults_fault
  check_fault = rw (stopped_clear start (codes "check") [] rest, stopped_walk start (codes "check") [] rest) (or_else-none (fault_from (bare_shape (codes "check")) start rest))

  check_met : subcommand_of bwe_app (codes "check" ∷ rest) ≡ Some (codes "check", rows_from (bare_shape (codes "check")) start rest)
  unfolding walked
  check_met = rw (stopped_walk start (codes "check") [] rest) refl

  run_fault : is_clear (fault_of bwe_app (codes "run" ∷ rest)) ≡ is_clear (fault_from run_shape start rest)
  unfolding walk_fault walked defaults_fault
  run_fault = rw (stopped_clear start (codes "run") [] rest, stopped_walk start (codes "run") [] rest) (or_else-none (fault_from run_shape start rest))

  run_met : subcommand_of bwe_app (codes "run" ∷ rest) ≡ Some (codes "run", rows_from run_shape start rest)
  unfolding walked
  run_met = rw (stopped_walk start (codes "run") [] rest) refl

  make_fault : is_clear (fault_of bwe_app (codes "make" ∷ rest)) ≡ is_clear (fault_from (sized_shape (codes "make")) start rest)
  unfolding walk_fault walked defaults_fault
  make_fault = rw (stopped_clear start (codes "make") [] rest, stopped_walk start (codes "make") [] rest) (or_else-none (fault_from (sized_shape (codes "make")) start rest))

  make_met : subcommand_of bwe_app (codes "make" ∷ rest) ≡ Some (codes "make", rows_from (sized_shape (codes "make")) start rest)
  unfolding walked
  make_met = rw (stopped_walk start (codes "make") [] rest) refl

  bulk_fault : is_clear (fault_of bwe_app (codes "bulk" ∷ rest)) ≡ is_clear (fault_from (sized_shape (codes "bulk")) start rest)
  unfolding walk_fault walked defaults_fault
  bulk_fault = rw (stopped_clear start (codes "bulk") [] rest, stopped_walk start (codes "bulk") [] rest) (or_else-none (fault_from (sized_shape (codes "bulk")) start rest))

  bulk_met : subcommand_of bwe_app (codes "bulk" ∷ rest) ≡ Some (codes "bulk", rows_from (sized_shape (codes "bulk")) start rest)
  unfolding walked
  bulk_met = rw (stopped_walk start (codes "bulk") [] rest) refl

  audit_fault : is_clear (fault_of bwe_app (codes "audit" ∷ rest)) ≡ is_clear (fault_from (bare_shape (codes "audit")) start rest)
  unfolding walk_fault walked defaults_fault
  audit_fault = rw (stopped_clear start (codes "audit") [] rest, stopped_walk start (codes "audit") [] rest) (or_else-none (fault_from (bare_shape (codes "audit")) start rest))

  audit_met : subcommand_of bwe_app (codes "audit" ∷ rest) ≡ Some (codes "audit", rows_from (bare_shape (codes "audit")) start rest)
  unfolding walked
  audit_met = rw (stopped_walk start (codes "audit") [] rest) refl

  tiers_fault : is_clear (fault_of bwe_app (codes "tiers" ∷ rest)) ≡ is_clear (fault_from (bare_shape (codes "tiers")) start rest)
  unfolding walk_fault walked defaults_fault
  tiers_fault = rw (stopped_clear start (codes "tiers") [] rest, stopped_walk start (codes "tiers") [] rest) (or_else-none (fault_from (bare_shape (codes "tiers")) start rest))

  tiers_met : subcommand_of bwe_app (codes "tiers" ∷ rest) ≡ Some (codes "tiers", rows_from (bare_shape (codes "tiers")) start rest)
  unfolding walked
  tiers_met = rw (stopped_walk start (codes "tiers") [] rest) refl

  enforce_fault : is_clear (fault_of bwe_app (codes "enforce" ∷ rest)) ≡ is_clear (fault_from (bare_shape (codes "enforce")) start rest)
  unfolding walk_fault walked defaults_fault
  enforce_fault = rw (stopped_clear start (codes "enforce") [] rest, stopped_walk start (codes "enforce") [] rest) (or_else-none (fault_from (bare_shape (codes "enforce")) start rest))

  enforce_met : subcommand_of bwe_app (codes "enforce" ∷ rest) ≡ Some (codes "enforce", rows_from (bare_shape (codes "enforce")) start rest)
  unfolding walked
  enforce_met = rw (stopped_walk start (codes "enforce") [] rest) refl

  estimate_fault : is_clear (fault_of bwe_app (codes "estimate" ∷ rest)) ≡ is_clear (fault_from estimate_shape start rest)
  unfolding walk_fault walked defaults_fault
  estimate_fault = rw (stopped_clear start (codes "estimate") [] rest, stopped_walk start (codes "estimate") [] rest) (or_else-none (fault_from estimate_shape start rest))

  estimate_met : subcommand_of bwe_app (codes "estimate" ∷ rest) ≡ Some (codes "estimate", rows_from estimate_shape start rest)
  unfolding walked
  estimate_met = rw (stopped_walk start (codes "estimate") [] rest) refl

  levels_fault : is_clear (fault_of bwe_app (codes "levels" ∷ rest)) ≡ is_clear (fault_from levels_shape start rest)
  unfolding walk_fault walked defaults_fault
  levels_fault = rw (stopped_clear start (codes "levels") [] rest, stopped_walk start (codes "levels") [] rest) (or_else-none (fault_from levels_shape start rest))

  levels_met : subcommand_of bwe_app (codes "levels" ∷ rest) ≡ Some (codes "levels", rows_from levels_shape start rest)
  unfolding walked
  levels_met = rw (stopped_walk start (codes "levels") [] rest) refl

-- no subcommand has this name
pub record IsUnknown (word : Text) : Type 0 where
  pub solve : bytes_eq (codes "solve") word ≡ false
  pub check : bytes_eq (codes "check") word ≡ false
  pub run : bytes_eq (codes "run") word ≡ false
  pub make : bytes_eq (codes "make") word ≡ false
  pub bulk : bytes_eq (codes "bulk") word ≡ false
  pub audit : bytes_eq (codes "audit") word ≡ false
  pub tiers : bytes_eq (codes "tiers") word ≡ false
  pub enforce : bytes_eq (codes "enforce") word ≡ false
  pub estimate : bytes_eq (codes "estimate") word ≡ false
  pub levels : bytes_eq (codes "levels") word ≡ false

unknown_name : (word : Text) → IsUnknown word → subcommand_met names idle word ≡ None
unknown_name word e = rw (e.solve, e.check, e.run, e.make, e.bulk, e.audit, e.tiers, e.enforce, e.estimate, e.levels) refl

unknown_line : (word : Text) (rest : List Text) → IsUnknown word → line_named word rest ≡ None
unknown_line word rest e = rw (e.solve, e.check, e.run, e.make, e.bulk, e.audit, e.tiers, e.enforce, e.estimate, e.levels) refl

unknown_fault : (word : Text) (rest : List Text) → is_hyphens word ≡ false → IsUnknown word → is_clear (fault_of bwe_app (word ∷ rest)) ≡ false
unfolding walk_fault
unknown_fault word rest plain unknown = go (turn_fault top names start word) _ _
    (stray top names [] None 1 word (text_met top.rules (λ byte. refl) (λ name. refl) names 1 word [] None plain (unknown_name word unknown)) refl)
  where
    go : (turn more then : Kinds) → is_clear turn ≡ false → is_clear (or_else (or_else turn more) then) ≡ false
    go [] more then e = absurd (true≢false e)
    go (kind ∷ kinds) more then e = refl

-- ---- each line

line_agrees : (word : Text) (rest : List Text) (shape : Shape) (line : Option CommandLine) (found : Option CommandLine)
    → is_clear (fault_of bwe_app (word ∷ rest)) ≡ is_clear (fault_from shape start rest) → line_met (subcommand_of bwe_app (word ∷ rest)) ≡ found → line_named word rest ≡ line
    → (is_clear (fault_from shape start rest) ≡ true → found ≡ line) → (is_clear (fault_from shape start rest) ≡ false → line ≡ None)
    → Agrees (is_clear (fault_of bwe_app (word ∷ rest))) (line_met (subcommand_of bwe_app (word ∷ rest))) (word ∷ rest)
line_agrees word rest shape line found clear is named taken refused =
    ((λ e. is ∙ taken (sym clear ∙ e) ∙ sym named), (λ e. named ∙ refused (sym clear ∙ e)))

-- a line that is its first word alone
bare_agrees : (name : Text) (line : CommandLine) (rest : List Text) → list_any is_hyphens rest ≡ false
    → is_clear (fault_of bwe_app (name ∷ rest)) ≡ is_clear (fault_from (bare_shape name) start rest)
    → line_met (subcommand_of bwe_app (name ∷ rest)) ≡ Some line → line_named name rest ≡ alone line rest → AgreesAt name rest
bare_agrees name line [] plain fault is named = line_agrees name [] (bare_shape name) (Some line) (Some line) fault is named
    (λ e. refl) (λ e. absurd (true≢false (sym (bare_clear name) ∙ e)))
bare_agrees name line (word ∷ rest) plain fault is named = line_agrees name (word ∷ rest) (bare_shape name) None (Some line) fault is named
    (λ e. absurd (true≢false (sym e ∙ bare_takes_no_word name word rest (first_plain word rest plain).0))) (λ e. refl)

solve_agrees : (rest : List Text) → list_any is_hyphens rest ≡ false → AgreesAt (codes "solve") rest
solve_agrees rest plain = bare_agrees (codes "solve") Solve rest plain (solve_fault rest) (ap line_met (solve_met rest)) refl

check_agrees : (rest : List Text) → list_any is_hyphens rest ≡ false → AgreesAt (codes "check") rest
check_agrees rest plain = bare_agrees (codes "check") Check rest plain (check_fault rest) (ap line_met (check_met rest)) refl

audit_agrees : (rest : List Text) → list_any is_hyphens rest ≡ false → AgreesAt (codes "audit") rest
audit_agrees rest plain = bare_agrees (codes "audit") Audit rest plain (audit_fault rest) (ap line_met (audit_met rest)) refl

tiers_agrees : (rest : List Text) → list_any is_hyphens rest ≡ false → AgreesAt (codes "tiers") rest
tiers_agrees rest plain = bare_agrees (codes "tiers") Tiers rest plain (tiers_fault rest) (ap line_met (tiers_met rest)) refl

enforce_agrees : (rest : List Text) → list_any is_hyphens rest ≡ false → AgreesAt (codes "enforce") rest
enforce_agrees rest plain = bare_agrees (codes "enforce") Enforce rest plain (enforce_fault rest) (ap line_met (enforce_met rest)) refl

run_line_agrees : (rest : List Text) → list_any is_hyphens rest ≡ false → Agrees (is_clear (fault_of bwe_app (codes "run" ∷ rest))) (line_met (subcommand_of bwe_app (codes "run" ∷ rest))) (codes "run" ∷ rest)
run_line_agrees rest plain =
    let agrees = run_agrees rest plain in
    line_agrees (codes "run") rest run_shape (option_and_then run_line (options_of nothing_given None rest)) (run_line (given_in (rows_from run_shape start rest)))
    (run_fault rest) (ap line_met (run_met rest)) refl (λ e. sym (agrees.0 e)) agrees.1

make_agrees : (rest : List Text) → list_any is_hyphens rest ≡ false → Agrees (is_clear (fault_of bwe_app (codes "make" ∷ rest))) (line_met (subcommand_of bwe_app (codes "make" ∷ rest))) (codes "make" ∷ rest)
make_agrees rest plain =
    let agrees = size_agrees (codes "make") rest plain in
    line_agrees (codes "make") rest (sized_shape (codes "make")) (option_map (λ (size : Size). Make size.seed size.groups size.tasks) (size_of rest)) (option_map (λ (size : Size). Make size.seed size.groups size.tasks) (size_given (rows_from (sized_shape (codes "make")) start rest)))
    (make_fault rest) (ap line_met (make_met rest)) refl
    (λ e. ap (option_map (λ (size : Size). Make size.seed size.groups size.tasks)) (sym (agrees.0 e))) (λ e. ap (option_map (λ (size : Size). Make size.seed size.groups size.tasks)) (agrees.1 e))

bulk_agrees : (rest : List Text) → list_any is_hyphens rest ≡ false → Agrees (is_clear (fault_of bwe_app (codes "bulk" ∷ rest))) (line_met (subcommand_of bwe_app (codes "bulk" ∷ rest))) (codes "bulk" ∷ rest)
bulk_agrees rest plain =
    let agrees = size_agrees (codes "bulk") rest plain in
    line_agrees (codes "bulk") rest (sized_shape (codes "bulk")) (option_map (λ (size : Size). Bulk size.seed size.groups size.tasks) (size_of rest)) (option_map (λ (size : Size). Bulk size.seed size.groups size.tasks) (size_given (rows_from (sized_shape (codes "bulk")) start rest)))
    (bulk_fault rest) (ap line_met (bulk_met rest)) refl
    (λ e. ap (option_map (λ (size : Size). Bulk size.seed size.groups size.tasks)) (sym (agrees.0 e))) (λ e. ap (option_map (λ (size : Size). Bulk size.seed size.groups size.tasks)) (agrees.1 e))

estimate_line_agrees : (rest : List Text) → list_any is_hyphens rest ≡ false → AgreesAt (codes "estimate") rest
estimate_line_agrees rest plain =
    let agrees = estimate_agrees rest plain in
    line_agrees (codes "estimate") rest estimate_shape (estimate_of rest) (estimate_given (rows_from estimate_shape start rest))
    (estimate_fault rest) (ap line_met (estimate_met rest)) refl (λ e. sym (agrees.0 e)) agrees.1

levels_line_agrees : (rest : List Text) → list_any is_hyphens rest ≡ false → AgreesAt (codes "levels") rest
levels_line_agrees rest plain =
    let agrees = levels_agrees rest plain in
    line_agrees (codes "levels") rest levels_shape (levels_of rest) (levels_given (rows_from levels_shape start rest))
    (levels_fault rest) (ap line_met (levels_met rest)) refl (λ e. sym (agrees.0 e)) agrees.1

unknown_agrees : (word : Text) (rest : List Text) → is_hyphens word ≡ false → IsUnknown word → Agrees (is_clear (fault_of bwe_app (word ∷ rest))) (line_met (subcommand_of bwe_app (word ∷ rest))) (word ∷ rest)
unknown_agrees word rest plain unknown = ((λ e. absurd (true≢false (sym e ∙ unknown_fault word rest plain unknown))), (λ e. unknown_line word rest unknown))

-- ---- all words

name_agrees : (word : Text) (rest : List Text) → is_hyphens word ≡ false → list_any is_hyphens rest ≡ false → AgreesAt word rest
name_agrees word rest plain more =
    either (codes "solve") (solve_agrees rest more) (λ solve.
    either (codes "check") (check_agrees rest more) (λ check.
    either (codes "run") (run_line_agrees rest more) (λ run.
    either (codes "make") (make_agrees rest more) (λ make.
    either (codes "bulk") (bulk_agrees rest more) (λ bulk.
    either (codes "audit") (audit_agrees rest more) (λ audit.
    either (codes "tiers") (tiers_agrees rest more) (λ tiers.
    either (codes "enforce") (enforce_agrees rest more) (λ enforce.
    either (codes "estimate") (estimate_line_agrees rest more) (λ estimate.
    either (codes "levels") (levels_line_agrees rest more) (λ levels.
    unknown_agrees word rest plain (record { solve = solve; check = check; run = run; make = make; bulk = bulk; audit = audit; tiers = tiers; enforce = enforce; estimate = estimate; levels = levels })))))))))))
  where
    -- the word is this name, or it is not
    either : (name : Text) → AgreesAt name rest → (bytes_eq name word ≡ false → AgreesAt word rest) → AgreesAt word rest
    either name agrees other = go (bytes_eq name word) refl
      where
        go : (same : Bool) → bytes_eq name word ≡ same → AgreesAt word rest
        go true e = subst (λ w. AgreesAt w rest) ((bytes_eq-Decides name word).0 e) agrees
        go false e = other e

no_words : is_clear (fault_of bwe_app []) ≡ false
unfolding walk_fault defaults_fault
no_words = refl

pub clap_agrees : (words : List Text) → list_any is_hyphens words ≡ false → Agrees (is_clear (fault_of bwe_app words)) (line_met (subcommand_of bwe_app words)) words
clap_agrees [] plain = ((λ e. absurd (true≢false (sym e ∙ no_words))), (λ e. refl))
clap_agrees (word ∷ rest) plain = name_agrees word rest (first_plain word rest plain).0 (first_plain word rest plain).1
