use Rattle.std.proofs.Common.{◌≡◌, ◌∙◌, ◌+◌, Bool, true, false, Some, if◌then◌else◌, ap, sym, take}
use Rattle.jav_names.specs.LookUps.{last_place}
use Rattle.mol_spell_places.specs.scope_names.Few.{names_of}
use Rattle.mol_spell_places.proofs.scope_names_lemmas.FewFirst.{one-more}
use Rattle.mol_spell_places.proofs.scope_names.few.last_of.Goals.{then-eq, else-eq}
use Rattle.mol_spell_places.proofs.scope_names.few.last_of.Goals as goal

pub loop-place-preserved : goal.loop-place-preserved
loop-place-preserved c =
    let names = c.args.names.now in
    let name = c.args.name.now in
    let place = c.loop-place.place in
    let more : (b : Bool) → c.eq.result ≡ b → (if b then Some place else last_place name (names_of (take place names)))
    ≡ last_place name (names_of (take (place + 1) names)) =
    λ b is. ap (λ b. if b then Some place else last_place name (names_of (take place names))) (sym is ∙ c.eq.ensures)
    ∙ sym (one-more names place c.loop-place-test.true _ name) in
    elim c.if-eq.branch [
      | then-eq w ↦ w.last-is ∙ more true w.if-eq.true
      | else-eq w ↦ w.last-is ∙ c.loop-place.invariant ∙ more false w.if-eq.false
    ]
