-- The numbers of a line that words are, are in their ranges.
use Rattle.std.proofs.Common.{◌≡◌, ℕ, ◌≤◌, Bool, true, false, ◌&&◌, List, [], ◌∷◌, Option, Some, None, option_and_then, option_map, refl, arith}
use Rattle.std.specs.Prelude.{if◌then◌else◌, nat_le, codes, IfSome}
use Rattle.std.specs.Str.{bytes_eq}
use Rattle.std.specs.Str.Parse.{digits_value}
use Rattle.std.proofs.lemmas.Bool.{and_parts, leb-true}
use Rattle.command_line.specs.declared.CommandLine.{CommandLine}
use Rattle.command_line.specs.declared.CommandLine.TheVariants as commands
use Rattle.command_line.specs.Ranges.{IsInRange}
use Rattle.text_scan.specs.Numbers.{is_number}
use Rattle.command_line.specs.Lines.{Text, Given, number_in, number_given, run_line, alone, line_of_texts, estimate_of, levels_of, options_of, nothing_given, size_of}

abbrev IsBetween : ℕ → ℕ → Option ℕ → Type 0
IsBetween least most None = Unit {0}
IsBetween least most (Some number) = (least ≤ number) × (number ≤ most)

number-between : (least most : ℕ) (text : Text) → IsBetween least most (number_in least most text)
number-between least most text = go (is_number text && (nat_le least (digits_value 10 text) && nat_le (digits_value 10 text) most)) refl where
  go : (b : Bool) → (is_number text && (nat_le least (digits_value 10 text) && nat_le (digits_value 10 text) most)) ≡ b → IsBetween least most (if b then Some (digits_value 10 text) else None)
  go true is =
      let parts = and_parts (is_number text) _ is in
      let bounds = and_parts (nat_le least (digits_value 10 text)) (nat_le (digits_value 10 text) most) parts.1 in
      (leb-true least (digits_value 10 text) bounds.0, leb-true (digits_value 10 text) most bounds.1)
  go false is = tt

given-between : (default least most : ℕ) (texts : List Text) → least ≤ default → default ≤ most → IsBetween least most (number_given default least most texts)
given-between default least most [] low high = (low, high)
given-between default least most (text ∷ []) low high = number-between least most text
given-between default least most (text ∷ (other ∷ more)) low high = tt

abbrev IsLineInRange : Option CommandLine → Type 0
IsLineInRange line = IfSome line IsInRange

either-in_range : (b : Bool) (x y : Option CommandLine) → IsLineInRange x → IsLineInRange y → IsLineInRange (if b then x else y)
either-in_range true x y p q = p
either-in_range false x y p q = q

run-in_range : (given : Given) → IsLineInRange (run_line given)
run-in_range given = go (number_given 2 1 64 given.readers) (given-between 2 1 64 given.readers (omega arith) (omega arith)) (number_given 4 0 1000 given.reads) (given-between 4 0 1000 given.reads (omega arith) (omega arith)) where
  go : (readers : Option ℕ) → IsBetween 1 64 readers → (reads : Option ℕ) → IsBetween 0 1000 reads
      → IsLineInRange (option_and_then (λ readers. option_map (λ reads. commands.Run readers reads) reads) readers)
  go None p reads q = tt
  go (Some readers) p None q = tt
  go (Some readers) p (Some reads) q = (p.0, p.1, q.1)

options-in_range : (options : Option Given) → IsLineInRange (option_and_then run_line options)
options-in_range None = tt
options-in_range (Some given) = run-in_range given

alone-in_range : (line : CommandLine) (rest : List Text) → IsLineInRange (Some line) → IsLineInRange (alone line rest)
alone-in_range line [] p = p
alone-in_range line (word ∷ rest) p = tt

-- a size that words give is in range
sized-in_range : (line : ℕ → ℕ → ℕ → CommandLine) → ((s g t : ℕ) → (1 ≤ g) × (g ≤ 1024) × (g ≤ t) × (t ≤ 20000) → IsLineInRange (Some (line s g t)))
    → (words : List Text) → IsLineInRange (option_map (λ size. line size.seed size.groups size.tasks) (size_of words))
sized-in_range line each [] = tt
sized-in_range line each (seed ∷ []) = tt
sized-in_range line each (seed ∷ (groups ∷ [])) = tt
sized-in_range line each (seed ∷ (groups ∷ (tasks ∷ []))) = by_seed (number_in 0 18446744073709551615 seed) refl where
  by_tasks : (s g : ℕ) → number_in 0 18446744073709551615 seed ≡ Some s → number_in 1 1024 groups ≡ Some g → (1 ≤ g) × (g ≤ 1024)
      → (read : Option ℕ) → number_in g 20000 tasks ≡ read → IsBetween g 20000 read
      → IsLineInRange (option_map (λ size. line size.seed size.groups size.tasks) (size_of (seed ∷ (groups ∷ (tasks ∷ [])))))
  by_tasks s g e f p None h q = rw (e, f, h) tt
  by_tasks s g e f p (Some t) h q = rw (e, f, h) (each s g t (p.0, p.1, q.0, q.1))

  by_groups : (s : ℕ) → number_in 0 18446744073709551615 seed ≡ Some s
      → (read : Option ℕ) → number_in 1 1024 groups ≡ read → IsBetween 1 1024 read
      → IsLineInRange (option_map (λ size. line size.seed size.groups size.tasks) (size_of (seed ∷ (groups ∷ (tasks ∷ [])))))
  by_groups s e None f p = rw (e, f) tt
  by_groups s e (Some g) f p = by_tasks s g e f p (number_in g 20000 tasks) refl (number-between g 20000 tasks)

  by_seed : (read : Option ℕ) → number_in 0 18446744073709551615 seed ≡ read
      → IsLineInRange (option_map (λ size. line size.seed size.groups size.tasks) (size_of (seed ∷ (groups ∷ (tasks ∷ [])))))
  by_seed None e = rw e tt
  by_seed (Some s) e = by_groups s e (number_in 1 1024 groups) refl (number-between 1 1024 groups)
sized-in_range line each (seed ∷ (groups ∷ (tasks ∷ (other ∷ more)))) = tt

estimate-in_range : (words : List Text) → IsLineInRange (estimate_of words)
estimate-in_range [] = tt
estimate-in_range (window ∷ []) = tt
estimate-in_range (window ∷ (headroom ∷ [])) =
    go (number_in 1 1000 window) (number-between 1 1000 window) (number_in 100 1000 headroom) (number-between 100 1000 headroom) where
      go : (w : Option ℕ) → IsBetween 1 1000 w → (h : Option ℕ) → IsBetween 100 1000 h → IsLineInRange (option_and_then (λ w. option_map (λ h. commands.Estimate w h) h) w)
      go None p h q = tt
      go (Some w) p None q = tt
      go (Some w) p (Some h) q = (p.0, p.1, q.0, q.1)
estimate-in_range (window ∷ (headroom ∷ (other ∷ more))) = tt

levels-in_range : (words : List Text) → IsLineInRange (levels_of words)
levels-in_range [] = tt
levels-in_range (share ∷ []) = go (number_in 0 1000000000 share) (number-between 0 1000000000 share) where
  go : (s : Option ℕ) → IsBetween 0 1000000000 s → IsLineInRange (option_map (λ s. commands.Levels s) s)
  go None p = tt
  go (Some s) p = p.1
levels-in_range (share ∷ (other ∷ more)) = tt

-- the numbers of the line that texts are
pub texts-in_range : (texts : List Text) → IsLineInRange (line_of_texts texts)
texts-in_range [] = tt
texts-in_range (word ∷ rest) =
    either-in_range (bytes_eq (codes "solve") word) _ _ (alone-in_range _ rest tt)
    (either-in_range (bytes_eq (codes "check") word) _ _ (alone-in_range _ rest tt)
    (either-in_range (bytes_eq (codes "run") word) _ _ (options-in_range (options_of nothing_given None rest))
    (either-in_range (bytes_eq (codes "make") word) _ _ (sized-in_range commands.Make (λ s g t p. p) rest)
    (either-in_range (bytes_eq (codes "bulk") word) _ _ (sized-in_range commands.Bulk (λ s g t p. p) rest)
    (either-in_range (bytes_eq (codes "audit") word) _ _ (alone-in_range _ rest tt)
    (either-in_range (bytes_eq (codes "tiers") word) _ _ (alone-in_range _ rest tt)
    (either-in_range (bytes_eq (codes "enforce") word) _ _ (alone-in_range _ rest tt)
    (either-in_range (bytes_eq (codes "estimate") word) _ _ (estimate-in_range rest)
    (either-in_range (bytes_eq (codes "levels") word) _ _ (levels-in_range rest) tt)))))))))
