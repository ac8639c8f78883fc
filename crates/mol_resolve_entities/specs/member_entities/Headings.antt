-- What is read of the headers of classes and members, with the types as a program keeps them.
use Rattle.std.specs.Prelude.{ℕ, List, [], ◌∷◌, ◌++◌, map, Option, option_map}
use Rattle.std.specs.List.{zip}
use Rattle.mol_base.specs.declared.ident.Id.{Id}
use Rattle.jav_tree.specs.declared.types.TypeName.{TypeName}
use Rattle.jav_tree.specs.declared.unit.Param.{Param}
use Rattle.jav_names.specs.UnitViews.{MemberKey}
use Rattle.mol_resolve_rules.specs.Expected.{listed}
use Rattle.mol_resolve_rules.specs.Outcomes.{Outcome, mapped, all, maybe}
use Rattle.mol_resolve_rules.specs.ReadFiles.{repeated_faults}
use Rattle.mol_resolve_rules.specs.ReadTypes.{ReadType, read_type}
use Rattle.mol_resolve_rules.specs.Readers.{Reader}
use Rattle.mol_values_types.specs.declared.itype.IType.{IType}
use Rattle.mol_values_types.specs.declared.param.Param.{Param as Listed}

-- one more item after others
abbrev pub put_last : {A : Type 0} → List A × A → List A
put_last parts = parts.0 ++ parts.1 ∷ []

abbrev pub tree_in : ReadType ℕ → IType
tree_in read = read.tree

-- a parameter with its identity and the type that is read for it
abbrev pub listed_as : Id → Param → ReadType ℕ → Listed
listed_as id param read = listed (id, (param, read))

module _ (reader : Reader ℕ MemberKey) where
  -- a type in a member that begins at this place
  abbrev pub tree_read : ℕ → TypeName → Outcome IType
  tree_read at name = mapped tree_in (read_type reader at name)

  -- what a class extends, if it extends something
  abbrev pub superclass_read : Option TypeName → Outcome (Option IType)
  superclass_read parent = maybe (option_map (tree_read 0) parent)

  abbrev pub param_read : ℕ → Id × Param → Outcome Listed
  param_read at param = mapped (listed_as param.0 param.1) (read_type reader at param.1.ty)

-- parameters with these identities, one after the other
abbrev pub all_read : List Id → Reader ℕ MemberKey → ℕ → List Param → Outcome (List Listed)
all_read ids reader at params = all (map (param_read reader at) (zip ids params))

-- Of a declaration that two parameters have one name is told after the types.
abbrev pub params_read : List Id → Reader ℕ MemberKey → ℕ → List Param → Outcome (List Listed)
params_read ids reader at params = record {
  value = (all_read ids reader at params).value;
  faults = (all_read ids reader at params).faults ++ repeated_faults at params;
}
