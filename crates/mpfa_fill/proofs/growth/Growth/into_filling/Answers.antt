use Rattle.std.proofs.Common.{◌≡◌, ℕ, sym, ◌∙◌, ap, subst, arith, None, reverse, map, length, slice_index_or, List, []}
use Rattle.std.proofs.lemmas.List.FromFn.{fill_by_all}
use mathlib.Core.List.{reverse-reverse}
use Rattle.path_groups.proofs.Paths.{length_map, get_map}
use Rattle.bwe_specs.specs.declared.network.Closing.{Closing}
use Rattle.bwe_specs.specs.Filling.{Wan, filling, group_stop, stop_share}
use Rattle.bwe_specs.specs.Paths.{path_group_count, link_load}
use Rattle.bwe_specs.specs.Reports.{numbers}
use Rattle.bwe_specs.specs.RightClosings.{amounts_at, over_at}
use Rattle.bwe_specs.proofs.Certificates.{right-closings}
use Rattle.mpfa_fill.specs.declared.standing.Standing.{Standing}
use Rattle.mpfa_fill.specs.declared.standing.Standing.TheVariants.{Stopped}
use Rattle.mpfa_fill.specs.Standing.{stop_of}
use Rattle.mpfa_fill.proofs.MomentLemmas.{never_falls}
use Rattle.mpfa_fill.specs.Growth.{wan_in, closings_in, added_in}
use Rattle.mpfa_fill.proofs.Growths.{held-stop}
use Rattle.mpfa_fill.proofs.growth.Growth.into_filling.Goals as goal

pub returns : goal.returns
returns g c =
    let m = c.requires.growth in
    let wan : Wan = wan_in g.V.GroupValues.meaning c.args.self in
    let closings : List Closing = closings_in c.args.self in
    let standings : List Standing = c.args.self.standings.items in
    let added : ℕ → ℕ → ℕ = added_in c.args.self in
    let at_top : c.args.top ≡ wan.top = c.requires.top in
    let fits : over_at wan closings wan.top ≡ None = subst (λ share. over_at wan closings share ≡ None) at_top c.requires.fits in
    let found = right-closings wan (never_falls _ _ _ m.known) closings (c.requires.right, fits) in
    let amounts : added ≡ (filling wan).amounts = c.requires.up ∙ ap (amounts_at wan closings) at_top ∙ found.1 in
    let loads : c.args.self.sums.loads ≡ map (link_load wan.groups (filling wan).amounts) (numbers (length wan.capacities)) =
    fill_by_all (link_load wan.groups (filling wan).amounts) c.args.self.sums.loads (length wan.capacities) 0 m.links
    (λ link lt. m.summed.loads link (omega (arith, lt, m.links)) ∙ ap (λ (x : ℕ → ℕ → ℕ). link_load wan.groups x link) amounts) in
    let stops : map (stop_of c.args.top) standings ≡ map (group_stop wan (filling wan)) (numbers (length wan.groups)) =
    fill_by_all (group_stop wan (filling wan)) (map (stop_of c.args.top) standings) (length wan.groups) 0
    (length_map (stop_of c.args.top) standings ∙ m.each_group)
    (λ group lt. get_map (stop_of c.args.top) standings group (Stopped 0) 0 (omega (arith, lt, m.each_group))
    ∙ ap (λ share. stop_of share (slice_index_or standings group (Stopped 0))) at_top
    ∙ held-stop wan closings added group (slice_index_or standings group (Stopped 0)) (m.each group lt)
    ∙ ap (λ (cs : List Closing). stop_share (slice_index_or wan.groups group []) cs wan.top) found.0) in
    record {
      closings = c.into_list.ensures ∙ sym (reverse-reverse c.args.self.closings) ∙ ap reverse found.0;
      amounts = c.in_ok-amounts.ensures
          ∙ ap (λ (x : ℕ → ℕ → ℕ). map (λ group. map (x group) (numbers (path_group_count wan.groups group))) (numbers (length wan.groups)))
          amounts;
      shares = c.in_ok-shares.ensures ∙ ap (map (stop_of c.args.top)) c.deref.ensures.value ∙ stops;
      loads = c.into_loads.ensures ∙ loads;
    }
