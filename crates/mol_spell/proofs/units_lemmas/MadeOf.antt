-- What results hold, by what it is made of.
use Rattle.std.proofs.Common.{◌≡◌, ◌∙◌, ap, subst, Ok, Err, Result}
use Rattle.std.specs.Prelude.{IfOk, IsOkAnd}
use Rattle.mol_base.specs.declared.ident.Id.{Id}
use Rattle.mol_spell_body.specs.GoesOn.{GoesOn}
use Rattle.mol_resolve_rules.specs.Locals.{Locals}
use Rattle.mol_spell_rules.specs.SpelledStatements.{Spells}

module _ {A E : Type 0} where
  pub moved : {W : Type 0} (r : Result A E) (f : W → A) (w v : W) → w ≡ v → IfOk r (λ x. x ≡ f w) → IfOk r (λ x. x ≡ f v)
  moved r f w v is = subst (λ w. IfOk r (λ x. x ≡ f w)) is

  pub chosen : {S : Type 0} (r : Result A E) (f : S → A) (s : S) → IfOk r (λ x. (s : S) → x ≡ f s) → IfOk r (λ x. x ≡ f s)
  chosen (Ok x) f s is = is s
  chosen (Err e) f s is = tt

  -- with a part that was handed over
  pub with_last : {B : Type 0} (r : Result A E) (part : Result B E) (f : B → A) (b : B) → IfOk r (λ x. IsOkAnd part (λ y. x ≡ f y))
      → IfOk part (λ y. y ≡ b) → IfOk r (λ x. x ≡ f b)
  with_last (Ok x) (Ok y) f b made is = made ∙ ap f is
  with_last (Ok x) (Err e) f b made is = absurd made
  with_last (Err e) part f b made is = tt

  -- from the locals where a part begins
  pub begun : (r : Result A E) (part : Spells A) (before after first : Locals Id) → before ≡ first
      → IfOk r (λ tree. GoesOn part tree before after) → IfOk r (λ tree. tree ≡ (part first).tree)
  begun (Ok tree) part before after first is goes = goes.is_written ∙ ap (λ locals. (part locals).tree) is
  begun (Err e) part before after first is goes = tt
