-- A class extends what its cell names, and its ancestors are the classes to which following superclasses leads.
use Rattle.std.proofs.Common.{◌≡◌, ◌≢◌, ◌⊎◌, inl, inr, Bool, true, false, ◌&&◌, cond, List, Option, Some, None, refl, sym, ◌∙◌, ap, subst, true≢false}
use Rattle.std.specs.FinMap.{get}
use Rattle.std.specs.List.{list_all}
use Rattle.std.proofs.lemmas.Bool.Decides.{same_from_decides}
use Rattle.jav_names.proofs.AncestorsFound.{ancestors_known}
use Rattle.jav_names.proofs.Lists.{Decides-fails}
use Rattle.jav_names.proofs.Ways.{has_class-decides}
use Rattle.jav_names.specs.Ancestors.{Extends, IsAncestor, Leads}
use Rattle.jav_names.specs.LookUps.{is_ancestor}
use Rattle.jav_names.specs.Views.{class_type, AreOrdered, View, ViewType}
use Rattle.mol_base.specs.declared.ident.Id.{Id}
use Rattle.mol_scope_classes.proofs.classes_lemmas.LivingClasses.{has-is}
use Rattle.mol_scope_classes.proofs.hierarchy_lemmas.Following.{further, one-step, stays}
use Rattle.mol_scope_classes.proofs.hierarchy_lemmas.OnWays.{on_way-decides}
use Rattle.mol_scope_classes.specs.hierarchy.Reaching.{Reaches}
use Rattle.mol_resolve_rules.proofs.ProgramsViewed.{programs_viewed}
use Rattle.mol_resolve_rules.specs.ProgramViews.{program_view, seen, seen_step, superclass_in}
use Rattle.mol_table_rules.proofs.Counts.{none-some, some-same}
use Rattle.mol_table_rules.proofs.Living.{id_tied, same_id-own}
use Rattle.mol_table_rules.specs.Ancestors.{is_on_way, living_parent}
use Rattle.mol_table_rules.specs.Heights.{upward}
use Rattle.mol_table_rules.specs.Mentions.{Mention, a_class, named, type_mentions, type_step}
use Rattle.mol_table_rules.specs.Program.{Program, class_of_type, class_step, living_at, parent_in, same_id, value_at}
use Rattle.mol_table_rules.specs.Renumber.{is_class}
use Rattle.mol_table_rules.specs.Rules.{IsProgram, fills}
use Rattle.mol_values_types.specs.declared.cell.Slot.TheVariants as slots
use Rattle.mol_values_types.specs.declared.itype.IType.{IType}
use Rattle.mol_values_types.specs.declared.itype.IType.TheFolds.{fold-roll-IType, ind-IType, map-IType}
use Rattle.mol_values_types.specs.declared.itype.IType.TheOpen.{IType-F}
use Rattle.mol_values_types.specs.declared.itype.IType.TheViews.{roll-IType}
use Rattle.mol_values_types.specs.declared.known.Known.{Known}
use Rattle.mol_values_types.specs.declared.known.Known.TheVariants as knowns
use Rattle.mol_values_types.specs.declared.value.Value.{Value}
use Rattle.mol_values_types.specs.declared.value.Value.TheVariants as values

-- ---- superclasses, as a program names them

-- a type that is a class of the program
record IsClassType (type : IType) (class : Id) : Type 0 where
  pub is : class_of_type type ≡ Some class
  pub seen_as : seen type ≡ class_type class
  pub mentioned : type_mentions type ≡ named a_class class

abbrev IsSeen : IType → Type 0
IsSeen type = (class : Id) → (seen type ≡ class_type class → IsClassType type class) × (class_of_type type ≡ Some class → IsClassType type class)

module _ (x : IType-F IType) where
  class-is : class_of_type (roll-IType x) ≡ class_step (map-IType _ _ class_of_type x)
  class-is = fold-roll-IType (Option Id) class_step x

  seen-is : seen (roll-IType x) ≡ seen_step (map-IType _ _ seen x)
  seen-is = fold-roll-IType (ViewType Id) seen_step x

  -- of no class
  other-seen : ((class : Id) → seen_step (map-IType _ _ seen x) ≡ class_type class → ⊥)
      → ((class : Id) → class_step (map-IType _ _ class_of_type x) ≡ Some class → ⊥) → IsSeen (roll-IType x)
  other-seen unseen unnamed class = (λ is. absurd (unseen class (sym seen-is ∙ is)), λ is. absurd (unnamed class (sym class-is ∙ is)))

class-roll : (class : Id) → IsClassType (roll-IType (IType-F.Class class)) class
class-roll class = record {
  is = class-is (IType-F.Class class);
  seen_as = seen-is (IType-F.Class class);
  mentioned = fold-roll-IType (List Mention) type_step (IType-F.Class class);
}

layer-seen : (y : IType-F ((type : IType) × IsSeen type)) → IsSeen (roll-IType (map-IType _ _ (λ p. p.0) y))
layer-seen (IType-F.Array item) = other-seen (IType-F.Array item.0) (λ class is. absurd cc) (λ class is. absurd cc)
layer-seen IType-F.Boolean = other-seen IType-F.Boolean (λ class is. absurd cc) (λ class is. absurd cc)
layer-seen IType-F.Byte = other-seen IType-F.Byte (λ class is. absurd cc) (λ class is. absurd cc)
layer-seen IType-F.Short = other-seen IType-F.Short (λ class is. absurd cc) (λ class is. absurd cc)
layer-seen IType-F.Char = other-seen IType-F.Char (λ class is. absurd cc) (λ class is. absurd cc)
layer-seen IType-F.Int = other-seen IType-F.Int (λ class is. absurd cc) (λ class is. absurd cc)
layer-seen IType-F.Long = other-seen IType-F.Long (λ class is. absurd cc) (λ class is. absurd cc)
layer-seen IType-F.Void = other-seen IType-F.Void (λ class is. absurd cc) (λ class is. absurd cc)
layer-seen (IType-F.Class own) = λ class. (
  λ is. subst (IsClassType (roll-IType (IType-F.Class own)))
      (let same : class_type own ≡ class_type class = sym (seen-is (IType-F.Class own)) ∙ is in let equal : own ≡ class = cc in equal)
      (class-roll own),
  λ is. subst (IsClassType (roll-IType (IType-F.Class own))) (some-same own class (sym (class-is (IType-F.Class own)) ∙ is))
      (class-roll own),
)
layer-seen (IType-F.Imported import rest) = other-seen (IType-F.Imported import rest) (λ class is. absurd cc) (λ class is. absurd cc)
layer-seen (IType-F.Written text) = other-seen (IType-F.Written text) (λ class is. absurd cc) (λ class is. absurd cc)

class-seen : (type : IType) → IsSeen type
class-seen = ind-IType IsSeen (λ x y is. subst (λ z. IsSeen (roll-IType z)) is (layer-seen y))

-- the value is a superclass that is a class of the program
abbrev HasParent : Option Value → Id → Type 0
HasParent value class = (type : IType) × (value ≡ Some (values.Super (Some type))) × IsClassType type class

seen-parent : (value : Option Value) (class : Id) → superclass_in value ≡ Some (class_type class) → HasParent value class
seen-parent None class is = absurd cc
seen-parent (Some (values.Live live)) class is = absurd cc
seen-parent (Some (values.Package name)) class is = absurd cc
seen-parent (Some (values.Owner owner)) class is = absurd cc
seen-parent (Some (values.Method method)) class is = absurd cc
seen-parent (Some (values.Name name)) class is = absurd cc
seen-parent (Some (values.Super None)) class is = absurd cc
seen-parent (Some (values.Super (Some type))) class is =
    let same : seen type ≡ class_type class = cc in
    (type, refl, (class-seen type class).0 same)
seen-parent (Some (values.Result type)) class is = absurd cc
seen-parent (Some (values.Params params)) class is = absurd cc
seen-parent (Some (values.Kind kind)) class is = absurd cc
seen-parent (Some (values.Fixed fixed)) class is = absurd cc
seen-parent (Some (values.Words words)) class is = absurd cc
seen-parent (Some (values.Notes notes)) class is = absurd cc
seen-parent (Some (values.Body body)) class is = absurd cc
seen-parent (Some (values.Value type init)) class is = absurd cc

named-parent : (value : Option Value) (class : Id) → parent_in value ≡ Some class → HasParent value class
named-parent None class is = absurd cc
named-parent (Some (values.Live live)) class is = absurd cc
named-parent (Some (values.Package name)) class is = absurd cc
named-parent (Some (values.Owner owner)) class is = absurd cc
named-parent (Some (values.Method method)) class is = absurd cc
named-parent (Some (values.Name name)) class is = absurd cc
named-parent (Some (values.Super None)) class is = absurd cc
named-parent (Some (values.Super (Some type))) class is = (type, refl, (class-seen type class).1 is)
named-parent (Some (values.Result type)) class is = absurd cc
named-parent (Some (values.Params params)) class is = absurd cc
named-parent (Some (values.Kind kind)) class is = absurd cc
named-parent (Some (values.Fixed fixed)) class is = absurd cc
named-parent (Some (values.Words words)) class is = absurd cc
named-parent (Some (values.Notes notes)) class is = absurd cc
named-parent (Some (values.Body body)) class is = absurd cc
named-parent (Some (values.Value type init)) class is = absurd cc

class-filled : (owner : Id) (known : Option Known) → (fills owner a_class known && true) ≡ true → is_class known ≡ true
class-filled owner None is = absurd (true≢false (sym is))
class-filled owner (Some knowns.Class) is = refl
class-filled owner (Some (knowns.Method kind)) is = absurd (true≢false (sym is))
class-filled owner (Some (knowns.Decl method)) is = absurd (true≢false (sym is))
class-filled owner (Some knowns.Field) is = absurd (true≢false (sym is))
class-filled owner (Some (knowns.Param method)) is = absurd (true≢false (sym is))

and-second : (a b : Bool) → (a && b) ≡ true → b ≡ true
and-second true b is = is
and-second false b is = absurd cc

module _ {C M : Type 0} (view : View C M) where
  leads-further : {class next : C} (top : C) → Leads view class next → Extends view next top → Leads view class top
  leads-further top (Leads.last_step extends) last = Leads.step extends (Leads.last_step last)
  leads-further top (Leads.step extends leads) last = Leads.step extends (leads-further top leads last)

module _ (program : Program) (rules : IsProgram program) where
  abbrev view : View Id Id
  view = program_view program

  ordered : AreOrdered view.classes
  ordered = (programs_viewed.ordered program).classes

  -- ---- one step

  extended : (class above : Id) → Extends view class above → upward program (Some class) ≡ Some above
  extended class above extends =
      let has = seen-parent (value_at program class slots.Super) above extends.named in
      ap (λ value. living_parent program (parent_in value)) has.1
      ∙ ap (living_parent program) has.2.is
      ∙ ap (λ b. cond b (Some above) None) (and-second (is_class (get program.known above)) (living_at program above)
      (sym (has-is program above) ∙ (has_class-decides view.classes ordered above).1 extends.stands))

  pub extends : (class above : Id) → upward program (Some class) ≡ Some above → Extends view class above
  extends class above up = by (parent_in (value_at program class slots.Super)) refl up where
    at : (parent : Id) → parent_in (value_at program class slots.Super) ≡ Some parent → living_at program parent ≡ true
        → Extends view class parent
    at parent is lives =
        let has = named-parent (value_at program class slots.Super) parent is in
        let rightly = rules.references class slots.Super (values.Super (Some has.0)) has.1 in
        let filled = class-filled class (get program.known parent)
        (subst (λ (ms : List Mention). list_all (λ (mention : Mention). fills class mention.role (get program.known mention.id)) ms ≡ true)
        has.2.mentioned rightly) in
        record {
          named = ap superclass_in has.1 ∙ ap (λ type. Some type) has.2.seen_as;
          stands = (has_class-decides view.classes ordered parent).0
              (has-is program parent ∙ (λ k. filled k && lives k));
        }

    by_life : (parent : Id) → parent_in (value_at program class slots.Super) ≡ Some parent → (b : Bool) → living_at program parent ≡ b
        → cond b (Some parent) None ≡ Some above → Extends view class above
    by_life parent is true lives some = subst (Extends view class) (some-same parent above some) (at parent is lives)
    by_life parent is false dead none = absurd (none-some above none)

    by : (o : Option Id) → parent_in (value_at program class slots.Super) ≡ o → living_parent program o ≡ Some above
        → Extends view class above
    by None is none = absurd (none-some above none)
    by (Some parent) is some = by_life parent is (living_at program parent) refl some

  -- ---- many

  reached : (class above : Id) → Leads view class above → Reaches program class above
  reached class above (Leads.last_step step) = one-step program class above (extended class above step)
  reached class above (Leads.step {above = next} step leads) =
      further program class next above (one-step program class next (extended class next step)) (reached next above leads)

  led : (class above : Id) → Reaches program class above → (class ≡ above) ⊎ Leads view class above
  led class above reaches = stays program (λ x. (class ≡ x) ⊎ Leads view class x) on reaches.steps class above reaches.leads (inl refl) where
    on : (below next : Id) → (class ≡ below) ⊎ Leads view class below → upward program (Some below) ≡ Some next
        → (class ≡ next) ⊎ Leads view class next
    on below next (inl same) up = inr (Leads.last_step (subst (λ c. Extends view c next) (sym same) (extends below next up)))
    on below next (inr leads) up = inr (leads-further view next leads (extends below next up))

  ancestor : (class above : Id) → same_id class above ≡ false → Reaches program class above → IsAncestor view class above
  ancestor class above apart reaches = by (led class above reaches) where
    differs : above ≢ class
    differs same = true≢false (sym (ap (same_id class) same ∙ same_id-own class) ∙ apart)

    by : (class ≡ above) ⊎ Leads view class above → IsAncestor view class above
    by (inl same) = absurd (differs (sym same))
    by (inr leads) = (ancestors_known Id Id).reached view class above ordered leads differs

  -- ---- ancestors

  pub ancestor-is : (class above : Id) → same_id class above ≡ false → is_on_way program class above ≡ is_ancestor view class above
  ancestor-is class above apart =
      same_from_decides (is_on_way program class above) (is_ancestor view class above) (on_way-decides program rules class above)
      (there, back) where
        there : is_ancestor view class above ≡ true → Reaches program class above
        there is = reached class above ((ancestors_known Id Id).led_to view class above
            (((ancestors_known Id Id).tested view class above ordered).0 is))

        back : Reaches program class above → is_ancestor view class above ≡ true
        back reaches = ((ancestors_known Id Id).tested view class above ordered).1 (ancestor class above apart reaches)

  pub never-itself : (class above : Id) → same_id class above ≡ true → false ≡ is_ancestor view class above
  never-itself class above same = sym (Decides-fails ((ancestors_known Id Id).tested view class above ordered)
      (λ is. (ancestors_known Id Id).never_itself view class (subst (IsAncestor view class) (sym (id_tied class above same)) is)))
