-- Going up from classes.
use Rattle.std.specs.Prelude.{◌≡◌, ◌↔◌, ◌⊎◌, suc, List, [], ◌∷◌, ◌++◌, Some, Contains}
use Rattle.std.specs.FinMap.{len}
use Rattle.mol_base.specs.declared.ident.Id.{Id}
use Rattle.mol_spell_rules.specs.Support.{IsAboveDeclaration, IsBetween, IsBetweenOwners}
use Rattle.mol_table_rules.specs.Ancestors.{living_parent, unmet, walk}
use Rattle.mol_table_rules.specs.Program.{Program, owner_at, parent_at}

-- what going up from a class meets that was not met before, up to what was
abbrev pub fresh_way : Program → List Id → Id → List Id
fresh_way program met class = walk (suc (len program.known)) program met (unmet met (Some class))

-- With each class its superclass is there, where that lives.
abbrev pub IsClosed : Program → List Id → Type 0
IsClosed program classes = (class above : Id) → Contains classes class → living_parent program (parent_at program class) ≡ Some above
    → Contains classes above

-- These are the owners of the declarations, and all above them.
abbrev pub AreAbove : Program → List Id → List Id → Type 0
AreAbove program declarations classes = (class : Id)
    → Contains classes class ↔ ((declaration : Id) × Contains declarations declaration × IsAboveDeclaration program declaration class)

-- These are the classes between the owners of two declarations.
abbrev pub AreBetweenOwners : Program → Id → Id → List Id → Type 0
AreBetweenOwners program first second classes = (class : Id) → Contains classes class ↔ IsBetweenOwners program first second class

-- These are the classes between a class and the owner of a declaration, whichever is the lower one.
abbrev pub AreBetweenOwner : Program → Id → Id → List Id → Type 0
AreBetweenOwner program first declaration classes = (class : Id) → Contains classes class
    ↔ ((second : Id) × (owner_at program declaration ≡ Some second)
    × (IsBetween program first second class ⊎ IsBetween program second first class))

-- A class stands in a list, and not after this one.
pub record IsUpTo (classes : List Id) (last class : Id) : Type 0 where
  pub below : List Id
  pub above : List Id
  pub is : classes ≡ below ++ last ∷ above
  pub met : Contains (below ++ last ∷ []) class
