-- The entities of files without a fault make a program, which is theirs in plain form, and as which they read.
use Rattle.std.proofs.Common.{◌≡◌, ◌≢◌, ℕ, true, cond, List, option_map, Option, Some, None, Contains, refl, sym, ◌∙◌, ap, subst, true≢false}
use Rattle.std.specs.Prelude.{IsTrue}
use Rattle.std.specs.List.{All}
use Rattle.std.specs.FinMap.{get, get-empty}
use Rattle.jav_print_laws.proofs.printable_lemmas.GrammarTrees.{units_are_printable, units_are_narrow}
use Rattle.jav_print_laws.proofs.printable_lemmas.OneTokens.{sources_have_tokens}
use Rattle.jav_names.proofs.Lists.{All-from_each}
use Rattle.jav_names.specs.UnitViews.{MemberKey}
use Rattle.jav_names.specs.Views.{ViewDeclaration}
use Rattle.mol_base.specs.Limits.{most, max_items}
use Rattle.mol_base.specs.Order.{id_cmp}
use Rattle.mol_base.specs.declared.limit.Which.TheVariants.{Height}
use Rattle.mol_resolve_rules.proofs.FilesStand.{some-same}
use Rattle.mol_resolve_rules.proofs.OneMethod.{methods_shared}
use Rattle.mol_resolve_rules.proofs.ValuesFound.{values_there}
use Rattle.mol_resolve_rules.specs.Expected.{kind_of, member_known, known_of, value_of}
use Rattle.mol_resolve_rules.specs.Files.{File, Files, files_view, declaration_at, PlacedMember, member_at}
use Rattle.mol_resolve_rules.specs.Numbering.{Numbered, numbered_class, numbered_member, numbered_method, numbered_param, in_order, id_at}
use Rattle.mol_resolve_rules.specs.ReadAs.{FilesReadAs, HasNoFault, HoldsWhatIsSaid, IsPlain, Holds, SaysValue, equal_value, SourceText, IsParsed}
use Rattle.mol_table_rules.specs.Program.{nothing}
use Rattle.mol_table_rules.specs.Writes.{AreOfKind, AreNew, with_entities}
use Rattle.mol_table_rules.specs.declared.entity.NewEntity.{NewEntity}
use Rattle.mol_values_types.specs.Slots.{kind_of_known, slots_of, has_slot}
use Rattle.mol_values_types.specs.declared.cell.Slot.{Slot}
use Rattle.mol_values_types.specs.declared.kind.Kind.TheVariants as kinds
use Rattle.mol_values_types.specs.declared.known.Known.{Known}
use Rattle.mol_values_types.specs.declared.known.Known.TheVariants as knowns
use Rattle.mol_resolve_laws.proofs.AllLive.{knows-living}
use Rattle.mol_resolve_laws.proofs.CellsTidied.{tidied-program}
use Rattle.mol_resolve_laws.proofs.EntityItems.{all-said}
use Rattle.mol_resolve_laws.proofs.EntityValues.{said-slots}
use Rattle.mol_resolve_laws.proofs.Filled.{added-as, entities-listed, item-of, entities-filled}
use Rattle.mol_resolve_laws.proofs.Gives.{none-some}
use Rattle.mol_resolve_laws.proofs.RulesHold.{rules-hold}
use Rattle.mol_resolve_laws.specs.Entities.{is_added, AreEntities}
use Rattle.mol_resolve_laws.specs.Laws.{IsTree, EntitiesPlain}

module _ (files : Files) (entities : List NewEntity) (no_fault : HasNoFault files) (are : AreEntities files entities) where
  -- what is added is no parameter
  member-kind : (key : MemberKey) (known : Known) → known_of files (numbered_member key) ≡ Some known → kind_of_known known ≢ kinds.Param
  member-kind key known is = by (member_at files key) is where
    by_declared : (o : Option (ViewDeclaration ℕ MemberKey)) → kind_of_known (member_known files o) ≢ kinds.Param
    by_declared None of_param = absurd cc
    by_declared (Some d) of_param = absurd cc

    by : (o : Option PlacedMember) → option_map (λ (at : PlacedMember). member_known files at.declared) o ≡ Some known
        → kind_of_known known ≢ kinds.Param
    by None is of_param = none-some is
    by (Some at) is of_param = by_declared at.declared (ap kind_of_known (some-same is) ∙ of_param)

  method-kind : (key : MemberKey) (known : Known) → known_of files (numbered_method key) ≡ Some known → kind_of_known known ≢ kinds.Param
  method-kind key known is = by (declaration_at (files_view files) key) is where
    by : (o : Option (ViewDeclaration ℕ MemberKey))
        → option_map (λ (d : ViewDeclaration ℕ MemberKey). knowns.Method (kind_of d.kind)) o ≡ Some known
        → kind_of_known known ≢ kinds.Param
    by None is of_param = none-some is
    by (Some d) is of_param = absurd (let both : kinds.Method ≡ kinds.Param = ap kind_of_known (some-same is) ∙ of_param in cc)

  kind-added : (item : Numbered) → is_added item ≡ true → (known : Known) → known_of files item ≡ Some known
      → kind_of_known known ≢ kinds.Param
  kind-added (numbered_class number) added known is of_param =
      absurd (let both : kinds.Class ≡ kinds.Param = ap kind_of_known (some-same is) ∙ of_param in cc)
  kind-added (numbered_member key) added known is of_param = member-kind key known is of_param
  kind-added (numbered_method key) added known is of_param = method-kind key known is of_param
  kind-added (numbered_param key place) added known is of_param = true≢false (sym added)

  of-kind : (entity : NewEntity) → Contains entities entity → AreOfKind entity
  of-kind entity stands =
      let of = item-of files no_fault entities are entity stands in
      let added = added-as files of.0 entity of.2 in
      subst AreOfKind added.same (record {
        entity_kind = kind-added of.0 added.added added.known added.is;
        values = said-slots (value_of files of.0) (slots_of (kind_of_known added.known))
            (all-said files no_fault of.0 of.1 added.known added.is);
      })

  entities-new : All IsTree files → AreNew nothing entities
  entities-new trees = record {
    kinds = All-from_each AreOfKind entities of-kind;
    unknown = All-from_each (λ (entity : NewEntity). get nothing.known entity.id ≡ None) entities
        (λ entity stands. get-empty id_cmp entity.id);
    differ = are.once;
    rules = rules-hold files no_fault (with_entities nothing entities) (entities-filled files no_fault entities are) trees;
  }

  entities-hold : (item : Numbered) → Contains (in_order files) item → (slot : Slot) → IsTrue (has_slot (known_of files item) slot)
      → Holds (λ said held. held ≡ said) (with_entities nothing entities) (id_at files item) slot (value_of files item slot)
  entities-hold item stands slot has =
      let filled = entities-filled files no_fault entities are in
      let known = values_there.known files item stands in
      let there = values_there.values files no_fault item stands slot has in
      record {
        text = there.0;
        held = there.0;
        says = there.1;
        holds = filled.cells item stands known.0 known.1 slot
            ∙ ap (λ b. cond b (value_of files item slot) None) (ap (λ o. has_slot o slot) (sym known.1) ∙ has) ∙ there.1;
        agree = refl;
      }

  program-plain : All IsTree files → IsPlain files (with_entities nothing entities)
  program-plain trees = record {
    no_fault = no_fault;
    numbered = (entities-filled files no_fault entities are).numbered;
    whole = (entities-new trees).rules.whole;
    holds = entities-hold;
  }

  -- a program in plain form says what the files say
  entities-said : HoldsWhatIsSaid files (with_entities nothing entities)
  entities-said item stands slot has = let plain = entities-hold item stands slot has in record {
    text = plain.text;
    held = plain.held;
    says = plain.says;
    holds = plain.holds;
    agree = subst (SaysValue plain.text) (sym plain.agree) equal_value;
  }

  files-read : All IsTree files → FilesReadAs files (with_entities nothing entities)
  files-read trees = record {
    no_fault = no_fault;
    numbered = (program-plain trees).numbered;
    holds = entities-said;
    methods = methods_shared.by_name files (with_entities nothing entities) no_fault entities-said;
    tidied = tidied-program files no_fault (with_entities nothing entities) (entities-filled files no_fault entities are) trees;
    all_live = knows-living files (with_entities nothing entities) (program-plain trees);
  }

-- a text that is parsed has a tree of the grammar
parsed-tree : (text : SourceText) (file : File) → IsParsed text file → IsTree file
parsed-tree text file is = record {
  printable = units_are_printable max_items (most Height) file.unit is.tokens (sources_have_tokens text.bytes is.tokens is.lexes) is.parses;
  narrow = units_are_narrow max_items (most Height) file.unit is.tokens is.parses;
}

pub entities_plain : EntitiesPlain
entities_plain = record {
  trees = parsed-tree;
  listed = entities-listed;
  new = λ files entities no_fault trees are. entities-new files entities no_fault are trees;
  plain = λ files entities no_fault trees are. program-plain files entities no_fault are trees;
  read = λ files entities no_fault trees are. files-read files entities no_fault are trees;
  living = knows-living;
}
