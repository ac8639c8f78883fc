use Rattle.std.proofs.Common.{◌∙◌, map, is_some, refl, sym, ap}
use Rattle.std.proofs.lemmas.List.{map_push}
use Rattle.std.proofs.lemmas.Result.{on_ok_weaker}
use Rattle.std.specs.Borrow.{Bor}
use Rattle.jav_names.specs.DottedNames.{Name}
use Rattle.mol_faults_values.proofs.local_faults_lemmas.Named.{declared-again, declared-once, has-place}
use Rattle.mol_faults_values.proofs.local_faults.scope.Scope.declare.Goals as goal
use Rattle.mol_spell_rules.specs.LocalClashes.{Scoped, declaring, then_next}

pub returns-in_ok-push-in-Some : goal.returns-in_ok-push-in-Some
returns-in_ok-push-in-Some c =
    let name = c.args.name.now in
    let names = c.self.inside.names in
    let clashes = c.self.inside.clashes.items in
    let before : Scoped = record { in_scope = names; clashes = map (λ (own : Bor Name). own.now) clashes } in
    on_ok_weaker c.enter.result
    (λ entered. declared-again before name _ _ entered (sym (has-place name names) ∙ ap is_some (sym c.place_of.ensures ∙ c.in-Some.is))
    (ap (map (λ (own : Bor Name). own.now)) c.in_ok-push-in-Some.ensures.items ∙ map_push (λ (own : Bor Name). own.now) clashes c.args.name)
    ∙ ap (λ (scope : Scoped). then_next scope (declaring name)) c.self.view_is) c.enter.ensures.ok

pub returns-in-None : goal.returns-in-None
returns-in-None c =
    let name = c.args.name.now in
    let names = c.self.inside.names in
    let before : Scoped = record { in_scope = names; clashes = map (λ (own : Bor Name). own.now) c.self.inside.clashes.items } in
    on_ok_weaker c.enter-in-None.result
    (λ entered. declared-once before name _ _ entered (sym (has-place name names) ∙ ap is_some (sym c.place_of.ensures ∙ c.in-None.is)) refl
    ∙ ap (λ (scope : Scoped). then_next scope (declaring name)) c.self.view_is) c.enter-in-None.ensures.ok
