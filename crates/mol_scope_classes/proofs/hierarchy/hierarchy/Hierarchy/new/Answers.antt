use Rattle.std.proofs.Common.{◌≡◌, ◌+◌, ◌∙◌, ◌∷◌, ◌++◌, [], List, false, Option, Some, None, is_some, take, refl, sym, ap, subst, true≢false}
use Rattle.std.proofs.lemmas.List.{take_more, take_all}
use Rattle.jav_names.proofs.Lists.{stands_nowhere}
use Rattle.mol_base.specs.declared.ident.Id.{Id}
use Rattle.mol_scope_classes.specs.hierarchy.Placed.{ArePlaced}
use Rattle.mol_scope_classes.specs.declared.hierarchy.forest.Forest.{Forest}
use Rattle.mol_scope_classes.proofs.hierarchy_lemmas.Asked.{IsWhole, none-placed, whole-more, whole-all}
use Rattle.mol_scope_classes.proofs.hierarchy.hierarchy.Hierarchy.new.Goals.{then-is_some+in_ok-note, else-is_some}
use Rattle.mol_scope_classes.proofs.hierarchy.hierarchy.Hierarchy.new.Goals as goal

nothing : (o : Option Id) → is_some o ≡ false → o ≡ None
nothing None is = refl
nothing (Some id) is = absurd (true≢false is)

pub loop-id-init : goal.loop-id-init
loop-id-init c = record {
  placed = none-placed c.args.table.now c.new-forest.result.numbers.entries c.new-forest.result.places.items
      c.new-forest.ensures.numbers c.new-forest.ensures.places;
  whole = λ id stands none. absurd (stands_nowhere id stands);
}

pub loop-id-preserved : goal.loop-id-preserved
loop-id-preserved c =
    let program = c.args.table.now in
    let ids : List Id = c.ids-id-items.result.now in
    let i = c.loop-id.id-index in
    let id : Id = c.id-item.result in
    let old = c.loop-id.forest.numbers.entries in
    let taken : take (i + 1) ids ≡ take i ids ++ id ∷ [] =
    take_more ids i id c.loop-id-test.true ∙ ap (λ x. take i ids ++ x ∷ []) (sym c.id-item.is) in
    let placed : ArePlaced program c.if-is_some.forest.numbers.entries c.if-is_some.forest.places.items = elim c.if-is_some.branch [
      | then-is_some+in_ok-note w ↦
          subst (λ (f : Forest). ArePlaced program f.numbers.entries f.places.items) (sym w.forest-is) w.in_ok-note.ensures.placed
      | else-is_some w ↦
          subst (λ (f : Forest). ArePlaced program f.numbers.entries f.places.items) (sym w.forest-is) c.loop-id.invariant.placed
    ] in
    let whole : IsWhole program c.if-is_some.forest.numbers.entries (take i ids ++ id ∷ []) = elim c.if-is_some.branch [
      | then-is_some+in_ok-note w ↦
          subst (λ (f : Forest). IsWhole program f.numbers.entries (take i ids ++ id ∷ [])) (sym w.forest-is)
          (whole-more program old w.note.new.self.numbers.entries (take i ids) id w.in_ok-note.ensures.kept c.loop-id.invariant.whole
          (λ none. absurd (true≢false (sym w.in_ok-note.ensures.noted ∙ ap is_some none))))
      | else-is_some w ↦
          subst (λ (f : Forest). IsWhole program f.numbers.entries (take i ids ++ id ∷ [])) (sym w.forest-is)
          (whole-more program old old (take i ids) id (λ class had. had) c.loop-id.invariant.whole
          (λ none. sym c.living_parent.ensures ∙ nothing c.living_parent.result (sym c.is_some.ensures ∙ w.if-is_some.false)))
    ] in
    record { placed = placed; whole = subst (IsWhole program c.if-is_some.forest.numbers.entries) (sym taken) whole }

pub invariant_of-result : goal.invariant_of-result
invariant_of-result c =
    let program = c.args.table.now in
    let numbers = c.loop-id.forest.numbers.entries in
    let ids = c.ids-id-items in
    record {
      rules = ids.ensures.rules;
      placed = c.loop-id.invariant.placed;
      whole = whole-all program ids.ensures.rules numbers ids.result.now ids.ensures.known
          (subst (IsWhole program numbers) (take_all c.loop-id.id-index ids.result.now c.loop-id-test.false) c.loop-id.invariant.whole);
    }
