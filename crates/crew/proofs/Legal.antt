-- What makes the log of a run legal.
use Rattle.std.proofs.Common.{◌≡◌, refl, ℕ, zero, suc, ◌<◌, ◌≤◌, List, [], ◌∷◌, Vec, Result, Ok, Err, OnOk, length, get_or, map, subst, sym, ap, ◌∙◌, arith, length-append}
use Rattle.std.specs.Prelude.{IfErr}
use Rattle.std.specs.List.{All, sum_by}
use Rattle.std.specs.declared.alloc.Global.{Global}
use Rattle.std.proofs.lemmas.List.{length-map, get_or-map, same_lists}
use Rattle.std.proofs.lemmas.List.Sums.{sum_by-cons}
use mathlib.Core.List.{IsPrefix}
use Rattle.bwe_specs.specs.declared.report.Report.{Report}
use Rattle.bwe_specs.specs.declared.limits.TheConstants.{MAX_REPORTS}
use Rattle.bwe_specs.specs.Reports.{reports_of}
use Rattle.board_log.specs.Laws.{without_places}
use Rattle.board_log.specs.Roll.{own_of}
use Rattle.board_log.proofs.Placing.{own_reports}
use Rattle.board_core.specs.Core.{IsAllowed}
use Rattle.bwe_specs.specs.Fit.{IsFit}
use Rattle.board.specs.Reporting.{Reporting, AreFresh, fresh_pass}
use Rattle.board.specs.declared.refusal.ReportError.{ReportError}
use Rattle.board.specs.declared.refusal.ReportError.TheVariants.{Full, OutOfMemory}
use Rattle.crew_log.specs.declared.log.CrewLog.{CrewLog}
use Rattle.crew_log.specs.LegalCrewLog.{IsReaderOf, IsLegalCrewLog}
use Rattle.crew_log.specs.Scripts.{AreOfReporters, reports_in}
use Rattle.crew_actors.specs.Reporters.{IsCutShort}
use Rattle.crew.specs.Reporters.{IsReady, AreReady, HaveReported, sent_by}

-- the passes as they are handed out are ready for the scripts
pub all_ready : (reporters tasks links : ℕ) (scripts : List (Vec Report Global)) (passes : List Reporting) → length scripts ≡ reporters → length passes ≡ reporters → AreFresh passes
    → AreOfReporters tasks links scripts → AreReady reporters tasks links scripts passes
all_ready reporters tasks links scripts passes count seats fresh are = record {
  count = count ∙ sym seats;
  each = λ number script pass lt.
      let by = (are number script (omega arith)).0 in
      let fit = (are number script (omega arith)).1 in
      let own : IsReady reporters tasks links (get_or scripts number script).items (fresh_pass number) =
      record { by = by; allowed = λ k d h. (omega (arith, by k d h), fit k d h); fresh = refl } in
      subst (λ (p : Reporting). IsReady reporters tasks links (get_or scripts number script).items p) (sym (fresh number pass lt)) own;
}

-- an item of a list that is long enough
pub some_of : {X : Type 0} (xs : List X) (n : ℕ) → n < length xs → X
some_of [] n lt = absurd (omega arith)
some_of (x ∷ xs) n lt = x

-- each pass has its number still
pub in_order : (reporters : ℕ) (scripts : List (Vec Report Global)) (old : List Reporting) (reported : List (Result (Unit {0}) ReportError)) (new : List Reporting)
    → length scripts ≡ reporters → length old ≡ reporters → AreFresh old → HaveReported scripts old reported new
    → (number : ℕ) (other : Reporting) → number < length new → (get_or new number other).number ≡ number
in_order reporters scripts old reported new count seats fresh have number other lt =
    let inside : number < length old = omega (arith, have.count) in
    (have.each number (some_of scripts number (omega arith)) other (Ok tt) other inside).number ∙ ap (λ (p : Reporting). p.number) (fresh number other inside)

sums_le : {X Y : Type 0} (f : X → ℕ) (h : Y → ℕ) (xs : List X) (ys : List Y) → length xs ≡ length ys → ((k : ℕ) (a : X) (b : Y) → k < length xs → f (get_or xs k a) ≤ h (get_or ys k b)) → sum_by f xs ≤ sum_by h ys
sums_le f h [] ys same le = omega arith
sums_le f h (x ∷ xs) [] same le = absurd (omega (arith, same))
sums_le f h (x ∷ xs) (y ∷ ys) same le =
    let first : f x ≤ h y = le 0 x y (omega arith) in
    let rest : sum_by f xs ≤ sum_by h ys = sums_le f h xs ys (omega (arith, same)) (λ k a b lt. le (suc k) a b (omega (arith, lt))) in
    omega (arith, first, rest, sum_by-cons f x xs, sum_by-cons h y ys)

sums_below : {X Y : Type 0} (f : X → ℕ) (h : Y → ℕ) (xs : List X) (ys : List Y) → length xs ≡ length ys → ((k : ℕ) (a : X) (b : Y) → k < length xs → f (get_or xs k a) ≤ h (get_or ys k b))
    → (n : ℕ) (a : X) (b : Y) → n < length xs → f (get_or xs n a) < h (get_or ys n b) → sum_by f xs < sum_by h ys
sums_below f h [] ys same le n a b lt below = absurd (omega (arith, lt))
sums_below f h (x ∷ xs) [] same le n a b lt below = absurd (omega (arith, same))
sums_below f h (x ∷ xs) (y ∷ ys) same le zero a b lt below =
    let rest : sum_by f xs ≤ sum_by h ys = sums_le f h xs ys (omega (arith, same)) (λ k a b lt. le (suc k) a b (omega (arith, lt))) in
    let here : f x < h y = below in
    omega (arith, here, rest, sum_by-cons f x xs, sum_by-cons h y ys)
sums_below f h (x ∷ xs) (y ∷ ys) same le (suc n) a b lt below =
    let first : f x ≤ h y = le 0 x y (omega arith) in
    let rest : sum_by f xs < sum_by h ys = sums_below f h xs ys (omega (arith, same)) (λ k a b lt. le (suc k) a b (omega (arith, lt))) n a b (omega (arith, lt)) below in
    omega (arith, first, rest, sum_by-cons f x xs, sum_by-cons h y ys)

not_full : (script : List Report) (pass : Reporting) (answer : Result (Unit {0}) ReportError) → IfErr answer (IsCutShort script pass)
    → ((MAX_REPORTS ≤ length pass.seen) × (length pass.own < length script) → ⊥) → IfErr answer (λ error. error ≡ OutOfMemory)
not_full script pass (Ok done) cut none = tt
not_full script pass (Err (Full held)) cut none = absurd (none cut)
not_full script pass (Err OutOfMemory) cut none = refl

-- no reporter met a full log: it would hold more than all scripts
pub never_full : (scripts : List (Vec Report Global)) (old : List Reporting) (reported : List (Result (Unit {0}) ReportError)) (new : List Reporting) (history : List Report)
    → length scripts ≡ length old → HaveReported scripts old reported new → reports_in scripts ≤ MAX_REPORTS → length history ≡ sent_by new → All (λ pass. IsPrefix pass.seen history) new
    → All (λ answer. IfErr answer (λ error. error ≡ OutOfMemory)) reported
never_full scripts old reported new history count have room whole seen k d lt =
    let inside : k < length old = omega (arith, have.answered) in
    let script = some_of scripts k (omega arith) in
    let pass = some_of new k (omega (arith, have.count)) in
    let has = have.each k script pass d pass inside in
    not_full (get_or scripts k script).items (get_or new k pass) (get_or reported k d) has.refused
    (λ cut.
    let begins = seen k pass (omega (arith, have.count)) in
    let held : length (get_or new k pass).seen ≤ length history = omega (arith, ap (λ (xs : List Report). length xs) begins.1, length-append (get_or new k pass).seen begins.0) in
    let fewer : sent_by new < reports_in scripts =
    sums_below (λ (p : Reporting). length p.own) (λ (s : Vec Report Global). length s.items) new scripts (omega (arith, count, have.count))
    (λ j a b h. (have.each j b a (Ok tt) a (omega (arith, have.count, h))).sent) k pass script (omega (arith, have.count)) cut.1 in
    omega (arith, cut.0, held, fewer, whole, room))

-- the log of a run that went well
pub is_legal : {T : Type 0} (belongs : List Report → T → Type 0) (total_of : T → ℕ) (reporters tasks links : ℕ) (scripts : List (Vec Report Global)) (readers reads : ℕ)
    (old : List Reporting) (reported : List (Result (Unit {0}) ReportError)) (new : List Reporting) (ack : List Report) (log : CrewLog T)
    → length scripts ≡ reporters → length old ≡ reporters → AreFresh old → HaveReported scripts old reported new → All (λ answer. answer ≡ Ok tt) reported
    → log.sent.items ≡ map (λ pass. length pass.own) new → log.history.items ≡ ack → All (λ pass. pass.own ≡ own_of pass.number ack) new → All (IsAllowed reporters (IsFit tasks links)) ack
    → length log.readers.items ≡ readers → All (IsReaderOf belongs total_of (IsAllowed reporters (IsFit tasks links)) reads ack) log.readers.items → belongs ack log.table
    → IsLegalCrewLog belongs total_of tasks links scripts readers reads log
is_legal {T} belongs total_of reporters tasks links scripts readers reads old reported new ack log count seats fresh have done sent is exact allowed many each table =
    let own : (k : ℕ) (script : Vec Report Global) (pass : Reporting) → k < length old → without_places (get_or new k pass).own ≡ (get_or scripts k script).items =
    λ k script pass lt. subst (λ (answer : Result (Unit {0}) ReportError). OnOk answer (without_places (get_or new k pass).own ≡ (get_or scripts k script).items))
    (done k (Ok tt) (omega (arith, have.answered, lt))) (have.each k script pass (Ok tt) pass lt).own in
    let one : (k : ℕ) (script : Vec Report Global) (pass : Reporting) → k < length old → reports_of k ack ≡ (get_or scripts k script).items =
    λ k script pass lt.
    sym (own_reports k ack)
    ∙ ap (λ (n : ℕ). without_places (own_of n ack)) (sym (in_order reporters scripts old reported new count seats fresh have k pass (omega (arith, have.count, lt))))
    ∙ ap without_places (sym (exact k pass (omega (arith, have.count, lt)))) ∙ own k script pass lt in
    let lengths : map (λ (pass : Reporting). length pass.own) new ≡ map (λ (script : Vec Report Global). length script.items) scripts =
    same_lists (map (λ (pass : Reporting). length pass.own) new) (map (λ (script : Vec Report Global). length script.items) scripts)
    (omega (arith, length-map new (λ (pass : Reporting). length pass.own), length-map scripts (λ (script : Vec Report Global). length script.items), have.count, count, seats))
    (λ k d lt.
    let inside : k < length new = omega (arith, lt, length-map new (λ (pass : Reporting). length pass.own)) in
    let script = some_of scripts k (omega (arith, inside, have.count, count, seats)) in
    let pass = some_of new k inside in
    get_or-map (λ (p : Reporting). length p.own) new k pass d inside
    ∙ (sym (length-map (get_or new k pass).own (λ entry. entry.report)) ∙ ap (λ (xs : List Report). length xs) (own k script pass (omega (arith, inside, have.count))))
    ∙ sym (get_or-map (λ (s : Vec Report Global). length s.items) scripts k script d (omega (arith, inside, have.count, count, seats)))) in
    record {
      scripts_so = λ k other lt. subst (λ (history : List Report). reports_of k history ≡ (get_or scripts k other).items) (sym is) (one k other (fresh_pass 0) (omega (arith, lt, count, seats)));
      no_other = subst (λ (n : ℕ). All (IsAllowed n (IsFit tasks links)) log.history.items) (sym count) (subst (All (IsAllowed reporters (IsFit tasks links))) (sym is) allowed);
      sent = sent ∙ lengths;
      readers_so = many;
      each_reader = subst (λ (n : ℕ). All (IsReaderOf belongs total_of (IsAllowed n (IsFit tasks links)) reads log.history.items) log.readers.items) (sym count)
          (subst (λ (history : List Report). All (IsReaderOf belongs total_of (IsAllowed reporters (IsFit tasks links)) reads history) log.readers.items) (sym is) each);
      table_so = subst (λ (history : List Report). belongs history log.table) (sym is) table;
    }
