-- What expressions in statements and declarations of locals use (JLS 14.4).
use Rattle.std.proofs.Common.{◌≡◌, List, ◌++◌, map, Option, None, Some, refl, sym, ap, ◌∙◌, subst}
use Rattle.jav_tree.specs.declared.stmt.Declarator.{Declarator}
use Rattle.mol_base.specs.declared.ident.Id.{Id}
use Rattle.mol_spell_uses.proofs.body_uses_lemmas.InTurn.{declared_stays, none_declared, nothing, retold, then_on}
use Rattle.mol_spell_uses.specs.body_uses.PartUses.{declared_uses, maybe_uses}
use Rattle.mol_spell_uses.specs.body_uses.UsesOn.{UsesOn}
use Rattle.mol_resolve_rules.specs.Locals.{Locals, declare}
use Rattle.mol_resolve_rules.specs.ProgramViews.{seen}
use Rattle.mol_spell_rules.specs.SpelledStatements.{Spells, declarator, declared_type, declaring_none, each, maybe_expr, spelled_let, spelled_start, then_next}
use Rattle.mol_spell_rules.specs.SpelledTypes.{SpelledType}
use Rattle.mol_spell_rules.specs.Writers.{Use, Writer}
use Rattle.mol_spell_uses.proofs.uses_lemmas.UsesNodes.{uses-all}
use Rattle.mol_spell_uses.specs.uses.Uses.{all_uses, uses_of}
use Rattle.mol_values_types.specs.declared.iblock.IDeclarator.{IDeclarator}
use Rattle.mol_values_types.specs.declared.iblock.IForStart.{IForStart}
use Rattle.mol_values_types.specs.declared.iblock.IForStart.TheVariants as starts
use Rattle.mol_values_types.specs.declared.iblock.ILet.{ILet}
use Rattle.mol_values_types.specs.declared.iexpr.IExpr.{IExpr}
use Rattle.mol_values_types.specs.declared.itype.IType.{IType}

module _ (writer : Writer) where
  -- ---- expressions

  pub maybe-uses : (e : Option IExpr) (locals : Locals Id) → uses_of (maybe_expr writer e locals).references ≡ maybe_uses writer locals e
  maybe-uses None locals = refl
  maybe-uses (Some e) locals = refl

  pub maybe-locals : (e : Option IExpr) (locals : Locals Id) → (maybe_expr writer e locals).locals ≡ locals
  maybe-locals None locals = refl
  maybe-locals (Some e) locals = refl

  -- ---- variables and their declarations

  -- A variable is declared, and then its first value is gone through.
  pub declarator-goes : (type : IType) (d : IDeclarator) (locals after : Locals Id) (uses more : List Use)
      → after ≡ declare (record { name = d.name; type = seen type }) locals → more ≡ uses ++ maybe_uses writer after d.init
      → UsesOn (declarator writer (seen type) d) locals uses after more
  declarator-goes type d locals after uses more declared is =
      let then : Locals Id = declare (record { name = d.name; type = seen type }) locals in
      record {
        are_added = is ∙ (λ i. uses ++ maybe_uses writer (declared i) d.init) ∙ ap (λ us. uses ++ us) (sym (maybe-uses d.init then));
        are_declared = declared ∙ sym (maybe-locals d.init then);
        stay_in_scope = declared_stays (record { name = d.name; type = seen type }) locals after declared;
      }

  -- The variables may be found as another value.
  pub let-goes : (declared : ILet) (found : List IDeclarator) (locals after : Locals Id) (uses between more : List Use)
      → found ≡ declared.names → between ≡ uses ++ declared_uses writer locals declared.ty
      → UsesOn (each (map (declarator writer (seen declared.ty)) found)) locals between after more
      → UsesOn (spelled_let writer declared) locals uses after more
  let-goes declared found locals after uses between more same is goes =
      retold (λ locals. then_next (type locals) (variables declared.names)) locals uses (spelled_let writer declared) after more refl refl
      (then_on type (variables declared.names) locals locals after uses between more (none_declared type locals uses between refl is)
      (subst (λ names. UsesOn (variables names) locals between after more) same goes)) where
        type : Spells SpelledType
        type locals = declaring_none (declared_type writer locals declared.ty) (declared_type writer locals declared.ty).references locals

        variables : List IDeclarator → Spells (List Declarator)
        variables names = each (map (declarator writer (seen declared.ty)) names)

-- # What stands before the first `;` in the header of a `for`

module _ (writer : Writer) (start : IForStart) (locals : Locals Id) (uses : List Use) where
  pub no-start : start ≡ starts.None → UsesOn (spelled_start writer start) locals uses locals uses
  no-start is =
      subst (λ start. UsesOn (spelled_start writer start) locals uses locals uses) (sym is)
      (nothing (spelled_start writer starts.None) locals uses refl refl)

  pub start-of-let : (declared : ILet) (after : Locals Id) (more : List Use) → start ≡ starts.Let declared
      → UsesOn (spelled_let writer declared) locals uses after more → UsesOn (spelled_start writer start) locals uses after more
  start-of-let declared after more is goes =
      subst (λ start. UsesOn (spelled_start writer start) locals uses after more) (sym is)
      (retold (spelled_let writer declared) locals uses (spelled_start writer (starts.Let declared)) after more refl refl goes)

  -- The expressions may be found as another value.
  pub start-of-exprs : (es found : List IExpr) (more : List Use) → start ≡ starts.Do es → found ≡ es
      → more ≡ uses ++ all_uses writer locals found → UsesOn (spelled_start writer start) locals uses locals more
  start-of-exprs es found more is same are =
      subst (λ start. UsesOn (spelled_start writer start) locals uses locals more) (sym (is ∙ ap (λ es. starts.Do es) (sym same)))
      (none_declared (spelled_start writer (starts.Do found)) locals uses more refl
      (are ∙ ap (λ us. uses ++ us) (sym (uses-all writer locals found))))
