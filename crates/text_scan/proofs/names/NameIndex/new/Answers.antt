use Rattle.std.proofs.Common.{◌≡◌, ℕ, ◌+◌, ◌∙◌, List, arith, string_bytes, subst, sym, take, ap, ◌∷◌, ◌++◌, [], get_or, false, String, Global, HashMap, BuildHasherDefault}
use Rattle.std.specs.HashMap.{get_by_text}
use Rattle.std.specs.Prelude.{is_some}
use Rattle.std.specs.declared.hash.FoldHasher.{FoldHasher}
use Rattle.std.proofs.lemmas.List.{length-take-le}
use Rattle.text_scan.proofs.NameFacts.{AreNumbered, stood_before, stands_now, one_more}
use Rattle.text_scan.proofs.names.NameIndex.new.Goals.{then-not-contains_key+in-Ok+in_ok-from_str+in_ok-insert, else-not-contains_key}
use Rattle.text_scan.proofs.names.NameIndex.new.Goals as goal

pub loop-place-preserved : goal.loop-place-preserved
loop-place-preserved c =
    let names = c.args.names.now in
    let place = c.loop-place.place in
    let name = get_or names place [] in
    let more = one_more names place (omega arith) in
    elim c.if-not-contains_key.branch [
      | then-not-contains_key+in-Ok+in_ok-from_str+in_ok-insert w ↦
          let copied : string_bytes w.in_ok-from_str.field-0 ≡ name = w.in_ok-from_str.ensures.ok ∙ c.name-name.ensures in
          subst (λ (numbers : HashMap (String Global) ℕ (BuildHasherDefault FoldHasher)). AreNumbered (take (place + 1) names) numbers) (sym w.numbers-is)
          (subst (λ (some : List (List ℕ)). AreNumbered some w.insert.new.self) (ap (λ (text : List ℕ). take place names ++ text ∷ []) copied ∙ more)
          (stands_now c.loop-place.numbers w.insert.new.self (take place names) (string_bytes w.in_ok-from_str.field-0) w.in-Ok.number c.loop-place.invariant
          (subst (λ (text : List ℕ). is_some (get_by_text c.loop-place.numbers text) ≡ false) (c.name-name.ensures ∙ sym copied) (sym w.if-not-contains_key.ensures))
          w.in_ok-insert.ensures.updates
          (omega (arith, w.in-Ok.ensures, length-take-le place names (omega arith)))))
      | else-not-contains_key w ↦ subst (λ (numbers : HashMap (String Global) ℕ (BuildHasherDefault FoldHasher)). AreNumbered (take (place + 1) names) numbers) (sym w.numbers-is)
          (subst (λ (some : List (List ℕ)). AreNumbered some c.loop-place.numbers) more
          (stood_before c.loop-place.numbers (take place names) name c.loop-place.invariant (rw c.name-name.ensures at (sym w.if-not-contains_key.ensures))))
    ]
