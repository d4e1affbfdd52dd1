-- Conversations, one behind the other.
use Rattle.std.proofs.Common.{◌≡◌, ◌∙◌, ℕ, List, [], ◌∷◌, ◌++◌, Option, ap, refl, sym, subst, append_assoc, append-nil}
use Rattle.live_stream.specs.Talk.{Event, Took, Gave, Talk, Goes, taken, given}
use Rattle.live_stream.proofs.Going.{Goes-append, Goes-nothing, given-append, taken-append}
use Rattle.live_run.specs.Follow.{Follow, called_for}
use Rattle.live_run.specs.Conversation.{IsLive, Passed, Converses}
use Rattle.live_run.specs.Answers.{AsksNothing, Gives}

live-same : (follow : Follow) (read read' written written' : List ℕ) (events : List Event) → read ≡ read' → written ≡ written'
    → IsLive follow read written events → IsLive follow read' written' events
live-same follow read read' written written' events same_read same_written live =
    subst (λ w. IsLive follow read' w events) same_written (subst (λ r. IsLive follow r written events) same_read live)

live-append : (follow : Follow) (read written : List ℕ) (xs ys : List Event) → IsLive follow read written xs
    → IsLive follow (read ++ taken xs) (written ++ given xs) ys → IsLive follow read written (xs ++ ys)
live-append follow read written [] ys first second =
    live-same follow (read ++ []) read (written ++ []) written ys (append-nil read) (append-nil written) second
live-append follow read written (Took bytes ∷ xs) ys first second = (
  first.0,
  live-append follow (read ++ bytes) written xs ys first.1
      (live-same follow _ _ _ _ ys (sym (append_assoc read bytes (taken xs))) refl second),
)
live-append follow read written (Gave bytes ∷ xs) ys first second =
    live-append follow read (written ++ bytes) xs ys first
    (live-same follow _ _ _ _ ys refl (sym (append_assoc written bytes (given xs))) second)

live-quiet : (follow : Follow) (read written : List ℕ) (xs : List Event) → AsksNothing xs → IsLive follow read written xs
live-quiet follow read written [] quiet = tt
live-quiet follow read written (Took bytes ∷ xs) quiet = absurd quiet
live-quiet follow read written (Gave bytes ∷ xs) quiet = live-quiet follow read (written ++ bytes) xs quiet

pub taken-quiet : (xs : List Event) → AsksNothing xs → taken xs ≡ []
taken-quiet [] quiet = refl
taken-quiet (Took bytes ∷ xs) quiet = absurd quiet
taken-quiet (Gave bytes ∷ xs) quiet = taken-quiet xs quiet

pub Converses-nothing : (follow : Follow) (talk : Option Talk) (passed : Passed) → Converses follow talk talk passed passed
Converses-nothing follow talk passed = record {
  events = [];
  goes = Goes-nothing talk;
  is_live = tt;
  read_so = sym (append-nil passed.read);
  written_so = sym (append-nil passed.written);
}

pub Converses-append : (follow : Follow) (a b c : Option Talk) (p q r : Passed) → Converses follow a b p q → Converses follow b c q r → Converses follow a c p r
Converses-append follow a b c p q r first second = record {
  events = first.events ++ second.events;
  goes = Goes-append a b c first.events second.events first.goes second.goes;
  is_live = live-append follow p.read p.written first.events second.events first.is_live
      (live-same follow _ _ _ _ second.events first.read_so first.written_so second.is_live);
  read_so = second.read_so ∙ ap (λ read. read ++ taken second.events) first.read_so
      ∙ append_assoc p.read (taken first.events) (taken second.events)
      ∙ ap (λ bytes. p.read ++ bytes) (sym (taken-append first.events second.events));
  written_so = second.written_so ∙ ap (λ written. written ++ given second.events) first.written_so
      ∙ append_assoc p.written (given first.events) (given second.events)
      ∙ ap (λ bytes. p.written ++ bytes) (sym (given-append first.events second.events));
}

-- a text was written
pub Converses-gives : (follow : Follow) (a b : Option Talk) (read written text after : List ℕ) → Gives a b text → after ≡ written ++ text
    → Converses follow a b (record { read = read; written = written }) (record { read = read; written = after })
Converses-gives follow a b read written text after gives so = record {
  events = gives.events;
  goes = gives.goes;
  is_live = live-quiet follow read written gives.events gives.asks;
  read_so = sym (ap (λ bytes. read ++ bytes) (taken-quiet gives.events gives.asks) ∙ append-nil read);
  written_so = so ∙ ap (λ bytes. written ++ bytes) (sym gives.text_so);
}

-- a piece was read, where all was written that had been called for
pub Converses-reads : (follow : Follow) (a b : Option Talk) (read written bytes : List ℕ) → written ≡ called_for follow read → Goes a b (Took bytes ∷ [])
    → Converses follow a b (record { read = read; written = written }) (record { read = read ++ bytes; written = written })
Converses-reads follow a b read written bytes called goes = record {
  events = Took bytes ∷ [];
  goes = goes;
  is_live = (called, tt);
  read_so = ap (λ more. read ++ more) (sym (append-nil bytes));
  written_so = sym (append-nil written);
}

-- a read that took nothing
pub Converses-still : (follow : Follow) (a b : Option Talk) (passed : Passed) → Goes a b [] → Converses follow a b passed passed
Converses-still follow a b passed goes = record {
  events = [];
  goes = goes;
  is_live = tt;
  read_so = sym (append-nil passed.read);
  written_so = sym (append-nil passed.written);
}
