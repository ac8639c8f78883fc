use Rattle.std.proofs.Common.{◌≡◌, ◌∙◌, sym, ap, false, Some}
use Rattle.std.specs.Prelude.{not, ◌==◌, ◌&&◌}
use Rattle.std.specs.FinMap.{get}
use Rattle.std.proofs.lemmas.Bool.{ne_eqb}
use Rattle.mol_table_rules.specs.Life.{lives_as, lives_method, lists}
use Rattle.mol_table.specs.Maps.{program_in}
use Rattle.mol_values_types.specs.declared.known.Known.TheVariants as knowns
use Rattle.mol_table_rules.proofs.Counts.{any-passing}
use Rattle.mol_table_numbers.proofs.order.lives.Goals as goal

pub returns-in-Some-Method : goal.returns-in-Some-Method
returns-in-Some-Method c =
    let program = program_in c.args.maps.now in
    let id = c.args.id.now in
    let known : get program.known id ≡ Some (knowns.Method c.in-Some-Method.field-0-0) = sym c.find.ensures ∙ c.in-Some-Method.is ∙ ap Some c.in-Some-Method.field-0-is in
    let live : not (c.number.result == 0) ≡ lives_method program id = ap (λ n. not (n == 0)) (c.number.ensures ∙ c.requires.numbers id) ∙ sym (any-passing _ _) in
    live ∙ sym (ap (lives_as program id) known)

pub returns-then-number-ne0 : goal.returns-then-number-ne0
returns-then-number-ne0 c =
    let program = program_in c.args.maps.now in
    let id = c.args.id.now in
    let method = c.in-Some-Param.method in
    let known : get program.known id ≡ Some (knowns.Param method) = sym c.find.ensures ∙ c.in-Some-Param.is ∙ ap Some c.in-Some-Param.field-0-is in
    let live : not (c.number-in-Some-Param.result == 0) ≡ lives_method program method = ap (λ n. not (n == 0)) (c.number-in-Some-Param.ensures ∙ c.requires.numbers method) ∙ sym (any-passing _ _) in
    c.lists.ensures ∙ sym (ap (λ b. b && lists program method id) (sym live ∙ ap not (ne_eqb c.number-in-Some-Param.result 0 c.if-number-ne0.true))) ∙ sym (ap (lives_as program id) known)

pub returns-else-number-ne0 : goal.returns-else-number-ne0
returns-else-number-ne0 c =
    let program = program_in c.args.maps.now in
    let id = c.args.id.now in
    let method = c.in-Some-Param.method in
    let known : get program.known id ≡ Some (knowns.Param method) = sym c.find.ensures ∙ c.in-Some-Param.is ∙ ap Some c.in-Some-Param.field-0-is in
    let live : not (c.number-in-Some-Param.result == 0) ≡ lives_method program method = ap (λ n. not (n == 0)) (c.number-in-Some-Param.ensures ∙ c.requires.numbers method) ∙ sym (any-passing _ _) in
    let none : not (c.number-in-Some-Param.result == 0) ≡ false = ap (λ n. not (n == 0)) c.if-number-ne0.false in
    none ∙ sym (ap (λ b. b && lists program method id) (sym live ∙ none)) ∙ sym (ap (lives_as program id) known)
