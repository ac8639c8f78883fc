-- What the words are that names read as.
use Rattle.std.proofs.Common.{◌≡◌, ℕ, Bool, true, false, cond, Option, Some, refl, sym, ◌∙◌, ap}
use Rattle.jav_names.specs.DottedNames.{Name}
use Rattle.mol_base.specs.declared.ident.Id.{Id}
use Rattle.mol_spell_rules.specs.references.References.{Target, field_target, local_target, outside_target, param_target}
use Rattle.mol_resolve_rules.specs.ReadTrees.{Meant, field_on_word, field_word}
use Rattle.mol_resolve_rules.specs.Readers.{Reader}
use Rattle.mol_spell_rules.specs.ReadInstead.{word_step, argument_step, word_target}
use Rattle.mol_values_types.specs.declared.iexpr.IExpr.{IExpr}
use Rattle.mol_values_types.specs.declared.iexpr.IExpr.TheFolds.{fold-roll-IExpr}
use Rattle.mol_values_types.specs.declared.iexpr.IExpr.TheOpen.{IExpr-F}
use Rattle.mol_values_types.specs.declared.iexpr.IExpr.TheVariants as exprs

pub word-Local : (number : ℕ) → word_target (exprs.Local number) ≡ Some (local_target number)
word-Local number = ap word_target (sym (exprs.rolls-Local number))
    ∙ fold-roll-IExpr (Option Target) (Option Target) word_step argument_step (IExpr-F.Local number)

pub word-Param : (id : Id) → word_target (exprs.Param id) ≡ Some (param_target id)
word-Param id = ap word_target (sym (exprs.rolls-Param id))
    ∙ fold-roll-IExpr (Option Target) (Option Target) word_step argument_step (IExpr-F.Param id)

word-Own : (field : Id) → word_target (exprs.Own field) ≡ Some (field_target field)
word-Own field = ap word_target (sym (exprs.rolls-Own field))
    ∙ fold-roll-IExpr (Option Target) (Option Target) word_step argument_step (IExpr-F.Own field)

pub word-StaticField : (field : Id) → word_target (exprs.StaticField field) ≡ Some (field_target field)
word-StaticField field = ap word_target (sym (exprs.rolls-StaticField field))
    ∙ fold-roll-IExpr (Option Target) (Option Target) word_step argument_step (IExpr-F.StaticField field)

word-Field : (field : Id) (e : IExpr) → word_target (exprs.Field field e) ≡ Some (field_target field)
word-Field field e = ap word_target (sym (exprs.rolls-Field field e))
    ∙ fold-roll-IExpr (Option Target) (Option Target) word_step argument_step (IExpr-F.Field field e)

pub word-OutsideName : (name : Name) → word_target (exprs.OutsideName name) ≡ Some (outside_target name)
word-OutsideName name = ap word_target (sym (exprs.rolls-OutsideName name))
    ∙ fold-roll-IExpr (Option Target) (Option Target) word_step argument_step (IExpr-F.OutsideName name)

pub word-OutsideClass : (full : Name) → word_target (exprs.OutsideClass full) ≡ Some (outside_target full)
word-OutsideClass full = ap word_target (sym (exprs.rolls-OutsideClass full))
    ∙ fold-roll-IExpr (Option Target) (Option Target) word_step argument_step (IExpr-F.OutsideClass full)

pub word-OutsideField : (name : Name) (e : IExpr) → word_target (exprs.OutsideField name e) ≡ Some (outside_target name)
word-OutsideField name e = ap word_target (sym (exprs.rolls-OutsideField name e))
    ∙ fold-roll-IExpr (Option Target) (Option Target) word_step argument_step (IExpr-F.OutsideField name e)

-- ---- fields, of `this` or static, and of values

module _ (reader : Reader Id Id) where
  pub word-variable : (is_static : Bool) (field : Id) → word_target (field_word reader is_static field) ≡ Some (field_target field)
  word-variable true field = word-StaticField field
  word-variable false field = word-Own field

  pub word-on : (value : Meant Id) (field : Id) → word_target (field_on_word reader value field) ≡ Some (field_target field)
  word-on value field = by value.is_this refl where
    by : (is_this : Bool) → value.is_this ≡ is_this → word_target (field_on_word reader value field) ≡ Some (field_target field)
    by true is = ap (λ b. word_target (cond b (exprs.Own field) (exprs.Field field value.tree))) is ∙ word-Own field
    by false is = ap (λ b. word_target (cond b (exprs.Own field) (exprs.Field field value.tree))) is ∙ word-Field field value.tree
