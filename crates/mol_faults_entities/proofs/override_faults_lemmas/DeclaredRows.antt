-- Living declarations of methods, as rows.
use Rattle.std.proofs.Common.{◌≡◌, ◌≢◌, Bool, true, false, cond, List, map, Option, Some, None, option_map, is_some, Contains, refl, sym, ◌∙◌, ap}
use Rattle.std.specs.FinMap.{get}
use Rattle.std.proofs.lemmas.Option.{same_Some}
use Rattle.jav_names.proofs.Lists.{stands-mapped}
use Rattle.mol_base.specs.declared.ident.Id.{Id}
use Rattle.mol_scope_classes.specs.hierarchy.Paths.{position_in}
use Rattle.mol_scope_classes.specs.declared.hierarchy.position.Position.{Position}
use Rattle.mol_faults_entities.specs.override_faults.Declarations.{Row, AreDeclared, declared_as, declared_at, declared_in, is_method, row_of}
use Rattle.mol_faults_entities.specs.override_faults.Overridden.{ArePlaced}
use Rattle.mol_faults_entities.specs.declared.override_faults.declaration.Declaration.{Declaration}
use Rattle.mol_faults_entities.proofs.pair_faults_lemmas.MadeRows.{IsMaking}
use Rattle.mol_resolve_rules.proofs.Stands.{from_map}
use Rattle.mol_spell_rules.specs.NameFaults.{IsLivingDeclaration}
use Rattle.mol_table_rules.specs.Program.{Program, living_at, owner_at}
use Rattle.mol_values_types.specs.declared.kind.MethodKind.{MethodKind}
use Rattle.mol_values_types.specs.declared.kind.MethodKind.TheVariants.{Instance, Static, Constructor}
use Rattle.mol_values_types.specs.declared.known.Known.{Known}
use Rattle.mol_values_types.specs.declared.known.Known.TheVariants as knowns

module _ (program : Program) (positions : List (Id × Position)) where
  -- a row is that of a living declaration of a method that is no constructor
  pub record IsRow (id : Id) (row : Row) : Type 0 where
    pub method : Id
    pub owner : Id
    pub kind : MethodKind
    pub living : IsLivingDeclaration program id method owner kind
    pub is_method : kind ≢ Constructor
    pub is : row ≡ declared_in program positions id method owner

  instance-apart : Instance ≢ Constructor
  instance-apart is = absurd cc

  static-apart : Static ≢ Constructor
  static-apart is = absurd cc

  module _ (id : Id) (row : Row) (lives : living_at program id ≡ true) (method : Id)
      (declares : get program.known id ≡ Some (knowns.Decl method)) where
    owned-is : (kind : MethodKind) → kind ≢ Constructor → get program.known method ≡ Some (knowns.Method kind) → (o : Option Id)
        → owner_at program id ≡ o → option_map (declared_in program positions id method) o ≡ Some row → IsRow id row
    owned-is kind apart is-kind None none at = absurd cc
    owned-is kind apart is-kind (Some owner) owned at = record {
      method = method;
      owner = owner;
      kind = kind;
      living = record { declares = declares; declaration_lives = lives; is_kind = is-kind; owned = owned };
      is_method = apart;
      is = sym (same_Some (declared_in program positions id method owner) row at);
    }

    method-is : (known : Option Known) → get program.known method ≡ known
        → cond (is_method known) (option_map (declared_in program positions id method) (owner_at program id)) None ≡ Some row → IsRow id row
    method-is None known at = absurd cc
    method-is (Some knowns.Class) known at = absurd cc
    method-is (Some knowns.Field) known at = absurd cc
    method-is (Some (knowns.Decl own)) known at = absurd cc
    method-is (Some (knowns.Param own)) known at = absurd cc
    method-is (Some (knowns.Method Constructor)) known at = absurd cc
    method-is (Some (knowns.Method Instance)) known at = owned-is Instance instance-apart known (owner_at program id) refl at
    method-is (Some (knowns.Method Static)) known at = owned-is Static static-apart known (owner_at program id) refl at

  pub row-is : (id : Id) (row : Row) → declared_at program positions id ≡ Some row → IsRow id row
  row-is id row at = by (living_at program id) refl (get program.known id) refl at where
    by : (b : Bool) → living_at program id ≡ b → (known : Option Known) → get program.known id ≡ known
        → cond b (declared_as program positions id known) None ≡ Some row → IsRow id row
    by false dead known is at = absurd cc
    by true lives None is at = absurd cc
    by true lives (Some knowns.Class) is at = absurd cc
    by true lives (Some knowns.Field) is at = absurd cc
    by true lives (Some (knowns.Method kind)) is at = absurd cc
    by true lives (Some (knowns.Param own)) is at = absurd cc
    by true lives (Some (knowns.Decl method)) is at = method-is id row lives method is (get program.known method) refl at

  -- the other way round
  method-true : (kind : MethodKind) → kind ≢ Constructor → is_method (Some (knowns.Method kind)) ≡ true
  method-true Instance apart = refl
  method-true Static apart = refl
  method-true Constructor apart = absurd (apart refl)

  pub row-at : (id method owner : Id) (kind : MethodKind) → IsLivingDeclaration program id method owner kind → kind ≢ Constructor
      → declared_at program positions id ≡ Some (declared_in program positions id method owner)
  row-at id method owner kind living apart =
      (λ i. cond (living.declaration_lives i) (declared_as program positions id (living.declares i)) None)
      ∙ (λ i. cond ((ap is_method living.is_kind ∙ method-true kind apart) i)
      (option_map (declared_in program positions id method) (living.owned i)) None)

  -- rows are made of what is known
  pub declared-making : IsMaking program (λ (row : Row). row.id) (declared_at program positions)
  declared-making = record {
    own = λ id row at. ap (λ (r : Row). r.id) (row-is id row at).is;
    known = λ id row at. ap is_some (row-is id row at).living.declares;
  }

  -- ---- those of a list

  module _ (rows : List Declaration) (are : AreDeclared program positions (map row_of rows)) where
    pub listed-is : (row : Declaration) → Contains rows row → IsRow row.id (row_of row)
    listed-is row stands = row-is row.id (row_of row) ((are (row_of row)).0 (stands-mapped row_of rows row stands))

    pub listed-at : (id method owner : Id) (kind : MethodKind) → IsLivingDeclaration program id method owner kind → kind ≢ Constructor
        → (row : Declaration) × Contains rows row × (row_of row ≡ declared_in program positions id method owner)
    listed-at id method owner kind living apart = from_map row_of rows (declared_in program positions id method owner)
        ((are (declared_in program positions id method owner)).1 (row-at id method owner kind living apart))

    pub listed-placed : ArePlaced positions rows
    listed-placed row stands =
        let row_is = listed-is row stands in
        ap (λ (r : Row). r.key.position) row_is.is ∙ ap (λ (r : Row). position_in positions r.owner) (sym row_is.is)
