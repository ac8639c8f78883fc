-- The address of a declaration: its class, a dot, its name, a slash and the number of parameters.
use Rattle.std.proofs.Common.{◌≡◌, ℕ, List, ◌∷◌, ◌++◌, Option, None, Some, length, refl}
use Rattle.std.specs.Fmt.{decimal}
use Rattle.mol_base.specs.declared.ident.Id.{Id}
use Rattle.mol_report.specs.Labels.{address_text, owner_text, declared_name}
use Rattle.mol_table_rules.specs.Faults.{decl_address}
use Rattle.mol_table_rules.specs.Program.{Program, owner_at, params_at}
use Rattle.mol_values_types.specs.declared.kind.MethodKind.TheVariants.{Constructor, Instance, Static}
use Rattle.mol_values_types.specs.declared.known.Known.{Known}
use Rattle.mol_values_types.specs.declared.known.Known.TheVariants as knowns

module _ (base : Program) (decl method : Id) where
  abbrev declaration_text : Option Known → List ℕ
  declaration_text known =
      owner_text base (owner_at base decl) ++ 46 ∷ declared_name base method known ++ 47 ∷ decimal (length (params_at base method))

  pub declaration-address : (known : Option Known) → declaration_text known ≡ address_text base (decl_address base decl method known)
  declaration-address None = refl
  declaration-address (Some knowns.Class) = refl
  declaration-address (Some knowns.Field) = refl
  declaration-address (Some (knowns.Decl own)) = refl
  declaration-address (Some (knowns.Param own)) = refl
  declaration-address (Some (knowns.Method Constructor)) = refl
  declaration-address (Some (knowns.Method Instance)) = refl
  declaration-address (Some (knowns.Method Static)) = refl
