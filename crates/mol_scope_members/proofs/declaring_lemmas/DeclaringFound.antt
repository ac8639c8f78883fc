-- Where the index of declarations finds a method.
use Rattle.std.proofs.Common.{◌≡◌, Bool, [], Option, Some, None, option_map, find, refl, sym, ◌∙◌, ap}
use Rattle.std.specs.FinMap.{entries}
use Rattle.std.specs.Option.{option_and_then}
use Rattle.std.specs.Ordering.{is_eq}
use Rattle.std.proofs.Math.Bool.{and-true}
use Rattle.std.proofs.lemmas.Bool.Decides.{same_from_decides}
use Rattle.jav_names.proofs.Ways.{same_key}
use Rattle.jav_names.specs.Views.{IsKeyOrder}
use Rattle.mol_base.specs.Order.{id_cmp}
use Rattle.mol_base.specs.declared.ident.Id.{Id}
use Rattle.jav_names.proofs.id_index_lemmas.Sought.{sought-is}
use Rattle.jav_names.specs.id_index.Seeking.{is_sought}
use Rattle.mol_resolve_rules.proofs.ProgramsViewed.{programs_viewed}
use Rattle.mol_resolve_rules.specs.StaticTypes.{class_of_only_declaration}
use Rattle.mol_table_rules.specs.Life.{is_decl_of}
use Rattle.mol_table_rules.specs.Program.{Program, same_id, owner_at}
use Rattle.mol_values_types.specs.declared.known.Known.{Known}
use Rattle.mol_values_types.specs.declared.known.Known.TheVariants as knowns
use Rattle.mol_scope_members.specs.declaring.Indexed.{AreIndexed, found_in}
use Rattle.mol_scope_members.specs.declaring.MemberEntries.{declaring_entry}
use Rattle.mol_scope_members.specs.declared.declaring.members.Members.{Members}
use Rattle.mol_scope_members.proofs.declaring_lemmas.EntriesMade.{id_of, Fits, found-made}

module _ (program : Program) (members : Members) (indexed : AreIndexed members program) (method : Id) where
  order : IsKeyOrder id_cmp
  order = (programs_viewed.ordered program).order

  -- whichever of two is compared with the other
  turned : (a b : Id) → is_eq (id_cmp a b) ≡ same_id b a
  turned a b = same_from_decides (is_eq (id_cmp a b)) (same_id b a) (same_key order a b)
      (λ is. sym ((same_key order b a).0 is), λ same. (same_key order b a).1 (sym same))

  abbrev key : Id × Known → Id
  key entry = entry.0

  abbrev passes : Id × Known → Bool
  passes entry = is_decl_of method entry.1

  fits : (entry : Id × Known) → Fits declaring_entry key passes (is_sought method 0 []) entry (declaring_entry entry)
  fits (id, knowns.Decl own) = (
    sought-is method 0 [] (record { owner = own; arity = 0; name = []; id = id }) ∙ and-true (is_eq (id_cmp own method))
        ∙ turned own method,
    refl,
  )
  fits (id, knowns.Class) = refl
  fits (id, knowns.Method kind) = refl
  fits (id, knowns.Field) = refl
  fits (id, knowns.Param own) = refl

  found-declaring : found_in members.declared 0 [] method ≡ option_map key (find passes (entries program.known))
  found-declaring = ap (option_map id_of) (indexed.declared method 0 [])
      ∙ found-made declaring_entry key passes (is_sought method 0 []) fits (entries program.known)

  owner-of : (o : Option (Id × Known)) → option_and_then (owner_at program) (option_map key o)
      ≡ option_and_then (λ (entry : Id × Known). owner_at program entry.0) o
  owner-of None = refl
  owner-of (Some entry) = refl

  pub declaring-class : option_and_then (owner_at program) (found_in members.declared 0 [] method)
      ≡ class_of_only_declaration program method
  declaring-class = ap (option_and_then (owner_at program)) found-declaring ∙ owner-of (find passes (entries program.known))
