-- Texts that were written, one after the other.
use Rattle.std.proofs.Common.{◌≡◌, ◌∙◌, ℕ, ◌+◌, List, [], ◌∷◌, ◌++◌, Option, ap, refl, sym, subst, arith, length, take, length-append}
use Rattle.std.proofs.lemmas.List.{take-append-le}
use Rattle.std.proofs.Math.Seq.{take-append-add}
use Rattle.live_stream.specs.Talk.{Event, Took, Gave, Talk, Goes, GivesPrefix, given, gives}
use Rattle.live_stream.proofs.Going.{Goes-append, Goes-nothing, given-append, given-gives}
use Rattle.live_run.specs.Answers.{AsksNothing, Gives, GivesFirst}

pub quiet-append : (xs ys : List Event) → AsksNothing xs → AsksNothing ys → AsksNothing (xs ++ ys)
quiet-append [] ys first second = second
quiet-append (Took bytes ∷ xs) ys first second = absurd first
quiet-append (Gave bytes ∷ xs) ys first second = quiet-append xs ys first second

quiet-gives : (text : List ℕ) → AsksNothing (gives text)
quiet-gives [] = tt
quiet-gives (byte ∷ bytes) = tt

pub Gives-nothing : (talk : Option Talk) → Gives talk talk []
Gives-nothing talk = record { events = []; goes = Goes-nothing talk; asks = tt; text_so = refl }

pub Gives-text : (talk talk_after : Option Talk) (text : List ℕ) → Goes talk talk_after (gives text) → Gives talk talk_after text
Gives-text talk talk_after text goes = record { events = gives text; goes = goes; asks = quiet-gives text; text_so = given-gives text }

pub GivesFirst-prefix : (talk talk_after : Option Talk) (text : List ℕ) → GivesPrefix talk talk_after text → GivesFirst talk talk_after text
GivesFirst-prefix talk talk_after text prefix = record {
  count = prefix.0;
  within = prefix.1;
  gives = Gives-text talk talk_after (take prefix.0 text) prefix.2;
}

pub Gives-append : (a b c : Option Talk) (xs ys : List ℕ) → Gives a b xs → Gives b c ys → Gives a c (xs ++ ys)
Gives-append a b c xs ys first second = record {
  events = first.events ++ second.events;
  goes = Goes-append a b c first.events second.events first.goes second.goes;
  asks = quiet-append first.events second.events first.asks second.asks;
  text_so = given-append first.events second.events ∙ ap (λ text. text ++ given second.events) first.text_so ∙ ap (λ text. xs ++ text) second.text_so;
}

pub Gives-same : (a b : Option Talk) (xs ys : List ℕ) → xs ≡ ys → Gives a b xs → Gives a b ys
Gives-same a b xs ys same gives = subst (λ text. Gives a b text) same gives

-- a first part of a text, after a whole one
pub GivesFirst-after : (a b c : Option Talk) (xs ys : List ℕ) → Gives a b xs → GivesFirst b c ys → GivesFirst a c (xs ++ ys)
GivesFirst-after a b c xs ys first second = record {
  count = length xs + second.count;
  within = omega (arith, second.within, length-append xs ys);
  gives = Gives-same a c _ _ (sym (take-append-add xs ys second.count)) (Gives-append a b c xs (take second.count ys) first second.gives);
}

-- a first part of a text is one of a longer text
pub GivesFirst-longer : (a b : Option Talk) (xs ys : List ℕ) → GivesFirst a b xs → GivesFirst a b (xs ++ ys)
GivesFirst-longer a b xs ys first = record {
  count = first.count;
  within = omega (arith, first.within, length-append xs ys);
  gives = Gives-same a b _ _ (sym (take-append-le first.count xs ys first.within)) first.gives;
}
