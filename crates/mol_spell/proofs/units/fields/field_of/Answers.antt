use Rattle.std.proofs.Common.{◌≡◌, sym, subst}
use Rattle.std.specs.Prelude.{IsOkAnd}
use Rattle.mol_spell.proofs.units.fields.field_of.Goals as goal
use Rattle.mol_spell.specs.units.MemberTrees.{field_of}
use Rattle.mol_spell.specs.declared.units.fields.FieldValue.{FieldValue}

pub returns : goal.returns
returns c =
    subst (λ r. IsOkAnd r (λ (made : FieldValue). c.field.result ≡ field_of c.args.head c.args.name made))
    (sym c.in_ok-value.was) c.field.ensures
