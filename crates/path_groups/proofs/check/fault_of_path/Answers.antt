use Rattle.std.proofs.Common.{◌≡◌, ◌∙◌, ◌≤◌, length, Bool, true, false, sym, ap, arith}
use Rattle.bwe_specs.specs.Given.{group_of}
use Rattle.path_groups.specs.Faults.{is_chain, repeats}
use Rattle.path_groups.proofs.CauseOrder.{path_fault-long, path_fault-light, path_fault-heavy, path_fault-broken, path_fault-twice, path_fault-none}
use Rattle.path_groups.proofs.check.fault_of_path.Goals as goal
use Rattle.path_groups.proofs.check.fault_of_path.Goals.{After-is_chain, then-path-lt1-via-then-path-lt1, then-path-lt1-via-else-path-lt1+then-path-gt-MAX_WEIGHT}

pub returns-then-len-gt-MAX_HOPS : goal.returns-then-len-gt-MAX_HOPS
returns-then-len-gt-MAX_HOPS c = sym (path_fault-long _ _ _ _ _ _ (omega (arith, c.len.ensures, c.args.path.now.links.ok.0)))

pub returns-then-path-lt1 : goal.returns-then-path-lt1
returns-then-path-lt1 c =
    let short : length c.args.path.now.links.items ≤ 32 = omega (arith, c.len.ensures, c.args.path.now.links.ok.0) in
    elim c.then-path-lt1.branch [
      | then-path-lt1-via-then-path-lt1 w ↦ sym (path_fault-light _ _ _ _ _ _ short w.if-path-lt1.true)
      | then-path-lt1-via-else-path-lt1+then-path-gt-MAX_WEIGHT w ↦ sym (path_fault-heavy _ _ _ _ _ _ short w.if-path-lt1.false w.if-path-gt-MAX_WEIGHT.true)
    ]

-- there are few links
short : (c : After-is_chain) → length c.args.path.now.links.items ≤ 32
short c = omega (arith, c.len.ensures, c.args.path.now.links.ok.0)

-- whether the links lead from the one site to the other
chain : (c : After-is_chain) (b : Bool) → c.is_chain.result ≡ b → is_chain c.args.topology.now (group_of c.args.spec.now).from (group_of c.args.spec.now).to c.args.path.now.links.items ≡ b
chain c b is = rw (← c.deref.ensures, ← c.deref-2.ensures, ← c.deref-3.ensures.value) (sym c.is_chain.ensures ∙ is)

pub returns-then-not-is_chain : goal.returns-then-not-is_chain
returns-then-not-is_chain c =
    let before = (goal.at.returns-then-not-is_chain c).After-is_chain in
    sym (path_fault-broken _ _ _ _ _ _ (short before) c.if-path-lt1.false c.if-path-gt-MAX_WEIGHT.false (chain before false c.if-not-is_chain.true))

pub returns-then-repeats : goal.returns-then-repeats
returns-then-repeats c =
    let before = (goal.at.returns-then-repeats c).After-is_chain in
    sym (path_fault-twice _ _ _ _ _ _ (short before) c.if-path-lt1.false c.if-path-gt-MAX_WEIGHT.false (chain before true c.if-not-is_chain.false) (ap repeats (sym c.deref-4.ensures.value) ∙ sym c.repeats.ensures ∙ c.if-repeats.true))

pub returns : goal.returns
returns c =
    let before = (goal.at.returns c).After-is_chain in
    sym (path_fault-none _ _ _ _ _ _ (short before) c.if-path-lt1.false c.if-path-gt-MAX_WEIGHT.false (chain before true c.if-not-is_chain.false) (ap repeats (sym c.deref-4.ensures.value) ∙ sym c.repeats.ensures ∙ c.if-repeats.false))
