-- The words after `run`: `clap` takes them as the definition does.
use Rattle.std.proofs.Math.Bool.{or-true}
use Rattle.std.proofs.Common.{◌≡◌, ℕ, Bool, true, false, cond, ◌&&◌, ◌||◌, List, [], ◌∷◌, ◌++◌, codes, Option, Some, None, refl, sym, ap, ap₂, subst, ◌∙◌, true≢false}
use Rattle.std.specs.Prelude.{option_map, option_and_then}
use Rattle.std.specs.List.{fold, list_any}
use Rattle.std.specs.Str.{bytes_eq}
use Rattle.std.proofs.lemmas.Slice.Eq.{bytes_eq-Decides}
use Rattle.std.proofs.lemmas.List.Folds.{list_any-append}
use Rattle.clap.specs.Lexer.{long_of}
use Rattle.clap.specs.Kinds.{Kinds, or_else}
use Rattle.clap.specs.Faults.{step_fault, default_fault, defaults_fault, long_fault, settle_fault, turn_fault, walk_fault, word_fault}
use Rattle.clap.specs.Simple.{filled, with_index}
use Rattle.clap.specs.Walk.{Held, Row, Rule, Step, Text, Walk, arg_by_long, has_row, idle, option, plain_word, settled_rows, after_step, used, walked, with_default, with_values}
use Rattle.clap.specs.declared.builder.value_parser.Reading.{Reading}
use Rattle.clap.specs.declared.parser.matches.ValueSource.{ValueSource}
use Rattle.text_scan.specs.Numbers.{is_number}
use Rattle.command_line.specs.Lines.{Given, Name, readers, reads, is_hyphens, name_of, number_given, option_of, option_word, options_of, run_line, with_text}
use Rattle.command_line.specs.Matches.{given_in, option_rule, texts_in}
use Rattle.command_line.proofs.Clear.{and_true, is_clear, or_else-clear}
use Rattle.command_line.proofs.Turns.{at, hold, stray, unknown_is_plain, word_is_plain}
use Rattle.command_line.proofs.Bare.{fault_from, one_word, refused_word, rows_from, run_shape}
use Rattle.command_line.proofs.Texts.{first_plain, long_is_no_number, no_number, none_after, option_is, refused_is_no_number}

abbrev c : List Rule
c = run_shape.rules

abbrev id_of : Name → Text
id_of readers = codes "readers"
id_of reads = codes "reads"

abbrev rule_named : Name → Rule
rule_named name = with_index 1 (filled (option_rule (id_of name)))

by_name : (text : Text) → arg_by_long c text ≡ option_map rule_named (name_of text)
by_name text = go (bytes_eq (codes "readers") text) refl (bytes_eq (codes "reads") text) refl
  where
    go : (first : Bool) → bytes_eq (codes "readers") text ≡ first → (second : Bool) → bytes_eq (codes "reads") text ≡ second → arg_by_long c text ≡ option_map rule_named (name_of text)
    go true e second e' = rw e refl
    go false e true e' = rw (e, e') refl
    go false e false e' = rw (e, e') refl

-- ---- the texts of an option

texts_same : (id : Text) (how : Reading) (source : ValueSource) (values : List Text) → bytes_eq id id ≡ true → (rows : List Row)
    → texts_in id (with_values id how source values rows) ≡ texts_in id rows ++ values
texts_same id how source values same [] = rw same refl
texts_same id how source values same (r ∷ rs) = go (texts_same id how source values same rs) (bytes_eq r.id id) refl
  where
    go : texts_in id (with_values id how source values rs) ≡ texts_in id rs ++ values → (here : Bool) → bytes_eq r.id id ≡ here
        → texts_in id (with_values id how source values (r ∷ rs)) ≡ texts_in id (r ∷ rs) ++ values
    go more true e = rw e (rw e refl)
    go more false e = rw e (rw e more)

texts_other : (id other : Text) (how : Reading) (source : ValueSource) (values : List Text) → bytes_eq id other ≡ false → (rows : List Row)
    → texts_in other (with_values id how source values rows) ≡ texts_in other rows
texts_other id other how source values differ [] = rw differ refl
texts_other id other how source values differ (r ∷ rs) = go (texts_other id other how source values differ rs) (bytes_eq r.id id) refl (bytes_eq r.id other) refl
  where
    go : texts_in other (with_values id how source values rs) ≡ texts_in other rs → (here : Bool) → bytes_eq r.id id ≡ here → (there : Bool) → bytes_eq r.id other ≡ there
        → texts_in other (with_values id how source values (r ∷ rs)) ≡ texts_in other (r ∷ rs)
    go more true e true e' = absurd (true≢false (sym e' ∙ ap (λ text. bytes_eq text other) ((bytes_eq-Decides r.id id).0 e) ∙ differ))
    go more true e false e' = rw (e, e') refl
    go more false e true e' = rw (e, e') refl
    go more false e false e' = rw (e, e') more

used_given : (name : Name) (text : Text) (rows : List Row) → given_in (used (rule_named name) (text ∷ []) rows) ≡ with_text name text (given_in rows)
used_given readers text rows = ap₂ {A = List Text} {B = List Text} {C = Given} (λ a b. record { readers = a; reads = b })
    (texts_same (codes "readers") _ _ (text ∷ []) refl rows) (texts_other (codes "readers") (codes "reads") _ _ (text ∷ []) refl rows)
used_given reads text rows = ap₂ {A = List Text} {B = List Text} {C = Given} (λ a b. record { readers = a; reads = b })
    (texts_other (codes "reads") (codes "readers") _ _ (text ∷ []) refl rows) (texts_same (codes "reads") _ _ (text ∷ []) refl rows)

-- ---- where a walk stands between two words

abbrev pending_of : Option (Name × Text) → Option (Text × List Text)
pending_of None = None
pending_of (Some (name, text)) = Some (id_of name, text ∷ [])

abbrev after : List Row → Option (Name × Text) → List Row
after rows None = rows
after rows (Some (name, text)) = used (rule_named name) (text ∷ []) rows

-- nothing waits
abbrev idle_at : List Row → Option (Name × Text) → Walk
idle_at rows last = at rows (pending_of last) idle 1

-- an option waits for its text
abbrev open_at : List Row → Name → Walk
open_at rows name = at rows (Some (id_of name, [])) (option (id_of name)) 1

settles : (rows : List Row) (last : Option (Name × Text)) → settled_rows c (pending_of last) rows ≡ after rows last
settles rows None = refl
settles rows (Some (readers, text)) = refl
settles rows (Some (reads, text)) = refl

settle_clear : (rows : List Row) (last : Option (Name × Text)) → settle_fault c false (hold rows (pending_of last)) ≡ []
settle_clear rows None = refl
settle_clear rows (Some (readers, text)) = refl
settle_clear rows (Some (reads, text)) = refl

open_refused : (rows : List Row) (name : Name) (then : Kinds) → is_clear (or_else (settle_fault c false (hold rows (Some (id_of name, [])))) then) ≡ false
open_refused rows readers then = refl
open_refused rows reads then = refl

-- no option has a default
no_default : (name : Name) (rows : List Row) → (with_default rows (rule_named name) ≡ rows) × (default_fault rows (rule_named name) ≡ [])
no_default name rows = go (has_row (id_of name) rows) refl
  where
    go : (there : Bool) → has_row (id_of name) rows ≡ there → (with_default rows (rule_named name) ≡ rows) × (default_fault rows (rule_named name) ≡ [])
    go true e = (rw e refl, rw e refl)
    go false e = (rw e refl, rw e refl)

defaults_clear : (rows : List Row) → defaults_fault rows c ≡ []
unfolding defaults_fault
defaults_clear rows =
    let first = no_default readers rows in
    let second = no_default reads rows in
    rw (first.1, first.0, second.1) refl

finished_is : (rows : List Row) → fold with_default rows c ≡ rows
finished_is rows = ap (λ (some : List Row). with_default some (rule_named reads)) (no_default readers rows).0 ∙ (no_default reads rows).0

-- ---- what the words come to

-- a text that is no number leaves no line
abbrev is_bad : Text → Bool
is_bad text = cond (is_number text) false true

abbrev has_bad : Given → Bool
has_bad given = list_any is_bad given.readers || list_any is_bad given.reads

bad_number : (default least most : ℕ) (texts : List Text) → list_any is_bad texts ≡ true → number_given default least most texts ≡ None
bad_number default least most [] bad = absurd (true≢false (sym bad))
bad_number default least most (text ∷ []) bad = go (is_number text) refl
  where
    go : (number : Bool) → is_number text ≡ number → number_given default least most (text ∷ []) ≡ None
    go true e = absurd (true≢false (sym bad ∙ rw e refl))
    go false e = no_number least most text e
bad_number default least most (text ∷ (other ∷ more)) bad = refl

bad_line : (given : Given) → has_bad given ≡ true → run_line given ≡ None
bad_line given bad = go (list_any is_bad given.readers) refl
  where
    go : (first : Bool) → list_any is_bad given.readers ≡ first → run_line given ≡ None
    go true e = rw (bad_number 2 1 64 given.readers e) refl
    go false e = let second : list_any is_bad given.reads ≡ true = rw e at bad in
        none_after (number_given 2 1 64 given.readers) _ (λ number. rw (bad_number 4 0 1000 given.reads second) refl)

or_keeps : (a b more : Bool) → (a || b) ≡ true → ((a || more) || b) ≡ true
or_keeps true b more e = refl
or_keeps false b true e = refl
or_keeps false b false e = e

or_keeps_second : (a b more : Bool) → (a || b) ≡ true → (a || (b || more)) ≡ true
or_keeps_second true b more e = refl
or_keeps_second false true more e = refl
or_keeps_second false false more e = absurd (true≢false (sym e))

bad_stays : (name : Name) (text : Text) (given : Given) → has_bad given ≡ true → has_bad (with_text name text given) ≡ true
bad_stays readers text given bad = rw (list_any-append is_bad given.readers (text ∷ [])) (or_keeps (list_any is_bad given.readers) _ _ bad)
bad_stays reads text given bad = rw (list_any-append is_bad given.reads (text ∷ [])) (or_keeps_second (list_any is_bad given.readers) (list_any is_bad given.reads) _ bad)

bad_added : (name : Name) (text : Text) (given : Given) → is_number text ≡ false → has_bad (with_text name text given) ≡ true
bad_added readers text given bad = rw (list_any-append is_bad given.readers (text ∷ []), bad, or-true (list_any is_bad given.readers)) refl
bad_added reads text given bad = rw (list_any-append is_bad given.reads (text ∷ []), bad, or-true (list_any is_bad given.reads), or-true (list_any is_bad given.readers)) refl

bad_options : (words : List Text) (given : Given) (waiting : Option Name) → has_bad given ≡ true → option_and_then run_line (options_of given waiting words) ≡ None
unfolding options_of
bad_options [] given None bad = bad_line given bad
bad_options [] given (Some name) bad = refl
bad_options (word ∷ rest) given (Some name) bad = bad_options rest (with_text name word given) None (bad_stays name word given bad)
bad_options (word ∷ rest) given None bad = go (bad_options rest) (option_of word)
  where
    go : ((given' : Given) (waiting : Option Name) → has_bad given' ≡ true → option_and_then run_line (options_of given' waiting rest) ≡ None) → (option : Option (Name × Option Text))
        → option_and_then run_line (option_word (λ given' waiting. options_of given' waiting rest) given option) ≡ None
    go more None = refl
    go more (Some (name, None)) = more given (Some name) bad
    go more (Some (name, Some text)) = more (with_text name text given) None (bad_stays name text given bad)

-- `clap` takes the words where the definition does, with the same line
abbrev pub Agrees : Bool → List Row → Option Given → Type 0
Agrees clear rows given = (clear ≡ true → option_and_then run_line given ≡ run_line (given_in rows)) × (clear ≡ false → option_and_then run_line given ≡ None)

refused_agrees : (clear : Bool) (rows : List Row) (given : Option Given) → clear ≡ false → option_and_then run_line given ≡ None → Agrees clear rows given
refused_agrees clear rows given e none = (λ e'. absurd (true≢false (sym e' ∙ e)), λ _. none)

carried : (clear clear' : Bool) (rows : List Row) (given given' : Option Given) → clear ≡ clear' → given ≡ given' → Agrees clear' rows given' → Agrees clear rows given
carried clear clear' rows given given' e e' h = rw (e, e') h

-- one more word that is taken
taken : (w w' : Walk) (word : Text) (rest : List Text) (given : Option Given) → is_clear (turn_fault run_shape [] w word) ≡ true → walked c [] w word ≡ w'
    → Agrees (is_clear (fault_from run_shape w' rest)) (rows_from run_shape w' rest) given
    → Agrees (is_clear (fault_from run_shape w (word ∷ rest))) (rows_from run_shape w (word ∷ rest)) given
taken w w' word rest given clear is h =
    carried (is_clear (fault_from run_shape w (word ∷ rest))) (is_clear (fault_from run_shape (walked c [] w word) rest)) (rows_from run_shape w (word ∷ rest)) given given
    (one_word run_shape w word rest ∙ ap (λ b. b && is_clear (fault_from run_shape (walked c [] w word) rest)) clear) refl
    (subst (λ (v : Walk). Agrees (is_clear (fault_from run_shape v rest)) (rows_from run_shape v rest) given) (sym is) h)

-- ---- one word

module _ (word : Text) (plain : is_hyphens word ≡ false) (rows : List Row) where
  no_long : (last : Option (Name × Text)) → long_of word ≡ None → is_clear (turn_fault run_shape [] (idle_at rows last) word) ≡ false
  no_long last long = stray run_shape [] rows (pending_of last) 1 word (word_is_plain c (λ byte. refl) [] idle 1 word rows (pending_of last) plain long refl) refl

  unknown : (last : Option (Name × Text)) (text : Text) (value : Option Text) → long_of word ≡ Some (text, value) → name_of text ≡ None → is_clear (turn_fault run_shape [] (idle_at rows last) word) ≡ false
  unknown last text value long none = stray run_shape [] rows (pending_of last) 1 word
      (unknown_is_plain c (λ byte. refl) [] 1 word rows (pending_of last) text value plain long refl (by_name text ∙ ap (option_map rule_named) none)) refl

  -- an option whose text comes next
  opens : (last : Option (Name × Text)) (text : Text) (name : Name) → long_of word ≡ Some (text, None) → name_of text ≡ Some name
      → (is_clear (turn_fault run_shape [] (idle_at rows last) word) ≡ true) × (walked c [] (idle_at rows last) word ≡ open_at (after rows last) name)
  unfolding walked
  opens last text name long is =
      let rule = by_name text ∙ ap (option_map rule_named) is in
      (rw (plain, long, rule, settle_clear rows last) refl, rw (plain, long, rule, settles rows last) refl)

  -- an option with its text
  gives : (last : Option (Name × Text)) (text value : Text) (name : Name) → long_of word ≡ Some (text, Some value) → name_of text ≡ Some name
      → (is_clear (turn_fault run_shape [] (idle_at rows last) word) ≡ true) × (walked c [] (idle_at rows last) word ≡ idle_at (after (after rows last) (Some (name, value))) None)
  unfolding walked
  gives last text value name long is =
      let rule = by_name text ∙ ap (option_map rule_named) is in
      (rw (plain, long, rule, settle_clear rows last) refl, rw (plain, long, rule, settles rows last) refl)

  -- an option in the place of a text
  not_a_text : (name : Name) (long : Text × Option Text) → long_of word ≡ Some long → is_clear (turn_fault run_shape [] (open_at rows name) word) ≡ false
  not_a_text name (text, value) long = rw (plain, long, by_name text) (go name (name_of text) value _)
    where
      go : (name : Name) (found : Option Name) (value : Option Text) (then : Kinds)
          → is_clear (or_else (long_fault c false (option_map rule_named found) value (hold rows (Some (id_of name, [])))) then) ≡ false
      go name None value then = refl
      go readers (Some found) None then = refl
      go reads (Some found) None then = refl
      go readers (Some found) (Some value) then = refl
      go reads (Some found) (Some value) then = refl

  pushed_is : (name : Name) → after_step c word (open_at rows name) (plain_word c (option (id_of name)) word (hold rows (Some (id_of name, [])))).0 (plain_word c (option (id_of name)) word (hold rows (Some (id_of name, [])))).1
      ≡ idle_at rows (Some (name, word))
  pushed_is readers = refl
  pushed_is reads = refl

  -- a text for the option
  text_taken : (name : Name) → long_of word ≡ None
      → (is_clear (turn_fault run_shape [] (open_at rows name) word) ≡ is_clear (word_fault run_shape [] false (option (id_of name)) word (hold rows (Some (id_of name, [])))))
      × (walked c [] (open_at rows name) word ≡ idle_at rows (Some (name, word)))
  unfolding walked
  text_taken name long =
      let met = word_is_plain c (λ byte. refl) [] (option (id_of name)) 1 word rows (Some (id_of name, [])) plain long refl in
      let first = word_fault run_shape [] false (option (id_of name)) word (hold rows (Some (id_of name, []))) in (
        or_else-clear first _ ∙ ap (λ b. is_clear first && b) (ap (λ (m : Held × Step). is_clear (step_fault run_shape 1 m.0 m.1)) met) ∙ and_true (is_clear first),
        ap (λ (m : Held × Step). after_step c word (open_at rows name) m.0 m.1) met ∙ pushed_is name,
      )

-- ---- all words

end_idle : (rows : List Row) (last : Option (Name × Text)) → (is_clear (fault_from run_shape (idle_at rows last) []) ≡ true) × (rows_from run_shape (idle_at rows last) [] ≡ after rows last)
unfolding walk_fault
end_idle rows last = (rw (settle_clear rows last, settles rows last, defaults_clear (after rows last)) refl, ap (λ (some : List Row). fold with_default some c) (settles rows last) ∙ finished_is (after rows last))

end_open : (rows : List Row) (name : Name) → is_clear (fault_from run_shape (open_at rows name) []) ≡ false
unfolding walk_fault
end_open rows name = open_refused rows name _

no_option : (word : Text) (rest : List Text) (given : Given) → option_of word ≡ None → option_and_then run_line (options_of given None (word ∷ rest)) ≡ None
unfolding options_of
no_option word rest given none = rw none refl

waits_for : (word : Text) (rest : List Text) (given : Given) (name : Name) → option_of word ≡ Some (name, None) → options_of given None (word ∷ rest) ≡ options_of given (Some name) rest
unfolding options_of
waits_for word rest given name e = rw e refl

is_given : (word : Text) (rest : List Text) (given : Given) (name : Name) (text : Text) → option_of word ≡ Some (name, Some text) → options_of given None (word ∷ rest) ≡ options_of (with_text name text given) None rest
unfolding options_of
is_given word rest given name text e = rw e refl

text_given : (word : Text) (rest : List Text) (given : Given) (name : Name) → options_of given (Some name) (word ∷ rest) ≡ options_of (with_text name word given) None rest
unfolding options_of
text_given word rest given name = refl

abbrev IdleAgrees : List Text → Type 0
IdleAgrees words = (rows : List Row) (last : Option (Name × Text))
    → Agrees (is_clear (fault_from run_shape (idle_at rows last) words)) (rows_from run_shape (idle_at rows last) words) (options_of (given_in (after rows last)) None words)

abbrev OpenAgrees : List Text → Type 0
OpenAgrees words = (rows : List Row) (name : Name)
    → Agrees (is_clear (fault_from run_shape (open_at rows name) words)) (rows_from run_shape (open_at rows name) words) (options_of (given_in rows) (Some name) words)

none_agrees : IdleAgrees [] × OpenAgrees []
unfolding options_of
none_agrees = (
  (λ rows last. (λ _. ap (λ (some : List Row). run_line (given_in some)) (sym (end_idle rows last).1), λ e. absurd (true≢false (sym (end_idle rows last).0 ∙ e)))),
  (λ rows name. (λ e. absurd (true≢false (sym e ∙ end_open rows name)), λ _. refl)),
)

-- a word where no option waits
idle_word : (word : Text) (rest : List Text) → is_hyphens word ≡ false → IdleAgrees rest → OpenAgrees rest → IdleAgrees (word ∷ rest)
idle_word word rest plain idle_rest open_rest rows last = go (long_of word) refl
  where
    w : Walk
    w = idle_at rows last

    given : Given
    given = given_in (after rows last)

    refused : is_clear (turn_fault run_shape [] w word) ≡ false → option_of word ≡ None
        → Agrees (is_clear (fault_from run_shape w (word ∷ rest))) (rows_from run_shape w (word ∷ rest)) (options_of given None (word ∷ rest))
    refused turn none = refused_agrees (is_clear (fault_from run_shape w (word ∷ rest))) (rows_from run_shape w (word ∷ rest)) (options_of given None (word ∷ rest)) (refused_word run_shape w word rest turn) (no_option word rest given none)

    known : (text : Text) (value : Option Text) → long_of word ≡ Some (text, value) → (found : Option Name) → name_of text ≡ found
        → Agrees (is_clear (fault_from run_shape w (word ∷ rest))) (rows_from run_shape w (word ∷ rest)) (options_of given None (word ∷ rest))
    known text value long None e = refused (unknown word plain rows last text value long e) (option_is word ∙ rw long (rw e refl))
    known text None long (Some name) e =
        let turn = opens word plain rows last text name long e in
        taken w (open_at (after rows last) name) word rest (options_of given None (word ∷ rest)) turn.0 turn.1
        (rw (waits_for word rest given name (option_is word ∙ rw long (rw e refl))) (open_rest (after rows last) name))
    known text (Some value) long (Some name) e =
        let turn = gives word plain rows last text value name long e in
        let after' = after (after rows last) (Some (name, value)) in
        taken w (idle_at after' None) word rest (options_of given None (word ∷ rest)) turn.0 turn.1
        (rw (is_given word rest given name value (option_is word ∙ rw long (rw e refl)), ← used_given name value (after rows last)) (idle_rest after' None))

    go : (long : Option (Text × Option Text)) → long_of word ≡ long
        → Agrees (is_clear (fault_from run_shape w (word ∷ rest))) (rows_from run_shape w (word ∷ rest)) (options_of given None (word ∷ rest))
    go None e = refused (no_long word plain rows last e) (option_is word ∙ rw e refl)
    go (Some (text, value)) e = known text value e (name_of text) refl

-- a word where one waits
open_word : (word : Text) (rest : List Text) → is_hyphens word ≡ false → IdleAgrees rest → OpenAgrees (word ∷ rest)
open_word word rest plain idle_rest rows name = go (long_of word) refl
  where
    w : Walk
    w = open_at rows name

    given : Given
    given = given_in rows

    bad : is_number word ≡ false → option_and_then run_line (options_of given (Some name) (word ∷ rest)) ≡ None
    bad e = rw (text_given word rest given name) (bad_options rest (with_text name word given) None (bad_added name word given e))

    refused : is_clear (turn_fault run_shape [] w word) ≡ false → is_number word ≡ false
        → Agrees (is_clear (fault_from run_shape w (word ∷ rest))) (rows_from run_shape w (word ∷ rest)) (options_of given (Some name) (word ∷ rest))
    refused turn e = refused_agrees (is_clear (fault_from run_shape w (word ∷ rest))) (rows_from run_shape w (word ∷ rest)) (options_of given (Some name) (word ∷ rest)) (refused_word run_shape w word rest turn) (bad e)

    text : (clear : Bool) → is_clear (word_fault run_shape [] false (option (id_of name)) word (hold rows (Some (id_of name, [])))) ≡ clear → long_of word ≡ None
        → Agrees (is_clear (fault_from run_shape w (word ∷ rest))) (rows_from run_shape w (word ∷ rest)) (options_of given (Some name) (word ∷ rest))
    text false e long = refused ((text_taken word plain rows name long).0 ∙ e) (refused_is_no_number run_shape (option (id_of name)) word (hold rows (Some (id_of name, []))) refl plain e)
    text true e long =
        taken w (idle_at rows (Some (name, word))) word rest (options_of given (Some name) (word ∷ rest)) ((text_taken word plain rows name long).0 ∙ e) (text_taken word plain rows name long).1
        (rw (text_given word rest given name, ← used_given name word rows) (idle_rest rows (Some (name, word))))

    go : (long : Option (Text × Option Text)) → long_of word ≡ long
        → Agrees (is_clear (fault_from run_shape w (word ∷ rest))) (rows_from run_shape w (word ∷ rest)) (options_of given (Some name) (word ∷ rest))
    go None e = text _ refl e
    go (Some long) e = refused (not_a_text word plain rows name long e) (long_is_no_number word long e)

words_agree : (words : List Text) → list_any is_hyphens words ≡ false → IdleAgrees words × OpenAgrees words
words_agree [] plain = none_agrees
words_agree (word ∷ rest) plain =
    let first = first_plain word rest plain in
    let more = words_agree rest first.1 in
    (idle_word word rest first.0 more.0 more.1, open_word word rest first.0 more.0)

pub run_agrees : (words : List Text) → list_any is_hyphens words ≡ false
    → Agrees (is_clear (fault_from run_shape (idle_at [] None) words)) (rows_from run_shape (idle_at [] None) words) (options_of (record { readers = []; reads = [] }) None words)
run_agrees words plain = (words_agree words plain).0 [] None
