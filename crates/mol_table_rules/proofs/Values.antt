-- Values of one code are one.
use Rattle.std.specs.Prelude.{◌≡◌, ◌↔◌, true, ◌&&◌, IsTrue}
use Rattle.std.proofs.Common.{refl, sym, ap, ◌∙◌, eqb-true, eq-eqb}
use Rattle.std.proofs.lemmas.Bool.{and_parts}
use base.Stored.{Gv, gnil, gnum, gcons}
use Rattle.mol_table_rules.specs.Values.{same_code, same_value}
use Rattle.mol_values_types.specs.contracts.value.Value.{the_row}
use Rattle.mol_values_types.specs.declared.value.Value.{Value}

code-itself : (code : Gv) → same_code code code ≡ true
code-itself gnil = refl
code-itself (gnum n) = eq-eqb n n refl
code-itself (gcons a b) = ap (λ t. t && same_code b b) (code-itself a) ∙ code-itself b

code-same : (first second : Gv) → same_code first second ≡ true → first ≡ second
code-same gnil gnil e = refl
code-same gnil (gnum n) e = absurd cc
code-same gnil (gcons c d) e = absurd cc
code-same (gnum m) gnil e = absurd cc
code-same (gnum m) (gnum n) e = ap gnum (eqb-true m n e)
code-same (gnum m) (gcons c d) e = absurd cc
code-same (gcons a b) gnil e = absurd cc
code-same (gcons a b) (gnum n) e = absurd cc
code-same (gcons a b) (gcons c d) e =
    let both = and_parts (same_code a c) (same_code b d) e in
    let left = code-same a c both.0 in
    let right = code-same b d both.1 in
    λ i. gcons (left i) (right i)

-- two values are the same exactly where this says so
pub same_value-is : (first second : Value) → IsTrue (same_value first second) ↔ first ≡ second
same_value-is first second = (
  λ is. the_row.coded.inj first second (code-same _ _ is),
  λ e. ap (same_value first) (sym e) ∙ code-itself (the_row.coded.code first),
)
