-- The pairs of declarations and of those above them are those of which one would override the other.
use Rattle.std.proofs.Common.{◌≡◌, ◌≢◌, ◌⊎◌, inl, inr, List, map, subst, Some, Contains, refl, sym, ◌∙◌, ap, length}
use Rattle.std.specs.Prelude.{◌↔◌}
use Rattle.mol_base.specs.declared.ident.Id.{Id}
use Rattle.mol_scope_classes.specs.declared.hierarchy.position.Position.{Position}
use Rattle.mol_faults_entities.specs.override_faults.Declarations.{Naming, Row, AreDeclared, declared_in, naming_of, row_of}
use Rattle.mol_faults_entities.specs.override_faults.Overridden.{IsOverAny}
use Rattle.mol_faults_entities.specs.declared.override_faults.declaration.Declaration.{Declaration}
use Rattle.mol_faults_entities.proofs.override_faults_lemmas.DeclaredRows.{IsRow, listed-is, listed-at}
use Rattle.mol_faults_entities.proofs.override_faults_lemmas.PairsAbove.{methods-apart, owners-apart, pair-when_apart}
use Rattle.mol_faults_entities.specs.pair_faults.Pairs.{ArePairsOf, ordered_pair}
use Rattle.mol_faults_entities.specs.declared.pair_faults.pair.Pair.{Pair}
use Rattle.mol_faults_entities.proofs.pair_faults_lemmas.PairsOrdered.{IsOf, pair-is, pair-made, pair-made_back}
use Rattle.mol_spell_rules.specs.NameFaults.{AreAlike, FalseOverride, IsLivingDeclaration, IsProperAncestor}
use Rattle.mol_table_rules.specs.Ancestors.{is_on_way}
use Rattle.mol_table_rules.specs.Program.{Program, name_at, params_at}

module _ (program : Program) (positions : List (Id × Position)) (rows : List Declaration)
    (are : AreDeclared program positions (map row_of rows)) where
  over-fault : (pair : Pair) → IsOverAny program rows rows pair → FalseOverride program pair.first pair.second
  over-fault pair any = by made.ways where
    methods : any.below.method ≢ any.over.above.method
    methods = methods-apart any.below any.over.above pair any.over.made

    owners : any.below.owner ≢ any.over.above.owner
    owners = owners-apart any.below any.over.above pair any.over.made

    made : IsOf any.below.id any.over.above.id pair
    made = pair-is any.below.id any.over.above.id pair (sym (pair-when_apart any.below any.over.above methods owners) ∙ any.over.made)

    below : IsRow program positions any.below.id (row_of any.below)
    below = listed-is program positions rows are any.below any.stands

    above : IsRow program positions any.over.above.id (row_of any.over.above)
    above = listed-is program positions rows are any.over.above any.over.stands

    of-below : any.below.method ≡ below.method
    of-below = ap (λ (r : Row). r.method) below.is

    of-above : any.over.above.method ≡ above.method
    of-above = ap (λ (r : Row). r.method) above.is

    in-below : any.below.owner ≡ below.owner
    in-below = ap (λ (r : Row). r.owner) below.is

    in-above : any.over.above.owner ≡ above.owner
    in-above = ap (λ (r : Row). r.owner) above.is

    named : name_at program below.method ≡ name_at program above.method
    named = sym (ap (λ (r : Row). r.key.name) below.is) ∙ ap (λ (n : Naming). n.name) any.over.alike ∙ ap (λ (r : Row). r.key.name) above.is

    as_many : length (params_at program below.method) ≡ length (params_at program above.method)
    as_many = sym (ap (λ (r : Row). r.key.arity) below.is) ∙ ap (λ (n : Naming). n.arity) any.over.alike
        ∙ ap (λ (r : Row). r.key.arity) above.is

    apart : below.method ≢ above.method
    apart same = methods (of-below ∙ same ∙ sym of-above)

    ancestor : IsProperAncestor program below.owner above.owner
    ancestor = record {
      on_way = (λ i. is_on_way program (sym in-below i) (sym in-above i)) ∙ any.over.on_way;
      apart = λ same. owners (in-below ∙ same ∙ sym in-above);
    }

    by : ((any.below.id ≡ pair.first) × (any.over.above.id ≡ pair.second))
        ⊎ ((any.below.id ≡ pair.second) × (any.over.above.id ≡ pair.first))
        → FalseOverride program pair.first pair.second
    by (inl way) = record {
      ordered = made.ordered;
      first_method = below.method;
      second_method = above.method;
      first_owner = below.owner;
      second_owner = above.owner;
      first_kind = below.kind;
      second_kind = above.kind;
      first_lives = subst (λ id. IsLivingDeclaration program id below.method below.owner below.kind) way.0 below.living;
      second_lives = subst (λ id. IsLivingDeclaration program id above.method above.owner above.kind) way.1 above.living;
      first_is_method = below.is_method;
      second_is_method = above.is_method;
      alike = record { apart = apart; named = named; as_many = as_many };
      related = inl ancestor;
    }
    by (inr way) = record {
      ordered = made.ordered;
      first_method = above.method;
      second_method = below.method;
      first_owner = above.owner;
      second_owner = below.owner;
      first_kind = above.kind;
      second_kind = below.kind;
      first_lives = subst (λ id. IsLivingDeclaration program id above.method above.owner above.kind) way.1 above.living;
      second_lives = subst (λ id. IsLivingDeclaration program id below.method below.owner below.kind) way.0 below.living;
      first_is_method = above.is_method;
      second_is_method = below.is_method;
      alike = record { apart = λ same. apart (sym same); named = sym named; as_many = sym as_many };
      related = inr ancestor;
    }

  -- two rows that are so related
  over-of : (pair : Pair) (below above : Declaration) → Contains rows below → Contains rows above → (below_id above_id : Id)
      → (below_method above_method below_owner above_owner : Id)
      → row_of below ≡ declared_in program positions below_id below_method below_owner
      → row_of above ≡ declared_in program positions above_id above_method above_owner
      → AreAlike program below_method above_method → IsProperAncestor program below_owner above_owner
      → (ordered_pair below_id above_id ≡ Some pair) → IsOverAny program rows rows pair
  over-of pair below above of-below of-above below_id above_id below_method above_method below_owner above_owner is-below is-above alike
      ancestor made =
      let in-below : below.owner ≡ below_owner = ap (λ (r : Row). r.owner) is-below in
      let in-above : above.owner ≡ above_owner = ap (λ (r : Row). r.owner) is-above in
      record {
        below = below;
        stands = of-below;
        over = record {
          above = above;
          stands = of-above;
          on_way = (λ i. is_on_way program (in-below i) (in-above i)) ∙ ancestor.on_way;
          alike = ap (λ (r : Row). naming_of r.key) is-below ∙ (λ i. record { arity = alike.as_many i; name = alike.named i })
              ∙ sym (ap (λ (r : Row). naming_of r.key) is-above);
          made = pair-when_apart below above
              (λ same. alike.apart (sym (ap (λ (r : Row). r.method) is-below) ∙ same ∙ ap (λ (r : Row). r.method) is-above))
              (λ same. ancestor.apart (sym in-below ∙ same ∙ in-above))
              ∙ (λ i. ordered_pair (ap (λ (r : Row). r.id) is-below i) (ap (λ (r : Row). r.id) is-above i)) ∙ made;
        };
      }

  turn : (first second : Id) → AreAlike program first second → AreAlike program second first
  turn first second alike = record { apart = λ same. alike.apart (sym same); named = sym alike.named; as_many = sym alike.as_many }

  fault-over : (pair : Pair) → FalseOverride program pair.first pair.second → IsOverAny program rows rows pair
  fault-over pair fault = by fault.related where
    first : (row : Declaration) × Contains rows row
        × (row_of row ≡ declared_in program positions pair.first fault.first_method fault.first_owner)
    first = listed-at program positions rows are pair.first fault.first_method fault.first_owner fault.first_kind fault.first_lives
        fault.first_is_method

    second : (row : Declaration) × Contains rows row
        × (row_of row ≡ declared_in program positions pair.second fault.second_method fault.second_owner)
    second = listed-at program positions rows are pair.second fault.second_method fault.second_owner fault.second_kind fault.second_lives
        fault.second_is_method

    by : IsProperAncestor program fault.first_owner fault.second_owner ⊎ IsProperAncestor program fault.second_owner fault.first_owner
        → IsOverAny program rows rows pair
    by (inl ancestor) = over-of pair first.0 second.0 first.1 second.1 pair.first pair.second fault.first_method fault.second_method
        fault.first_owner fault.second_owner first.2 second.2 fault.alike ancestor
        (pair-made pair fault.ordered pair.first pair.second refl refl)
    by (inr ancestor) = over-of pair second.0 first.0 second.1 first.1 pair.second pair.first fault.second_method fault.first_method
        fault.second_owner fault.first_owner second.2 first.2 (turn fault.first_method fault.second_method fault.alike) ancestor
        (pair-made_back pair fault.ordered pair.second pair.first refl refl)

  pub override-pairs : (pairs : List Pair) → ((pair : Pair) → Contains pairs pair ↔ IsOverAny program rows rows pair)
      → ArePairsOf (FalseOverride program) pairs
  override-pairs pairs found pair = (
    λ stands. over-fault pair ((found pair).0 stands),
    λ fault. (found pair).1 (fault-over pair fault),
  )
