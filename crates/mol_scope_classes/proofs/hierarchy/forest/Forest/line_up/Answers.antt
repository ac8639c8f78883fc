use Rattle.std.proofs.Common.{◌≡◌, ◌∷◌, ◌++◌, ◌∙◌, [], ◌<◌, List, ℕ, Some, None, sym, ap, subst, take, drop, length, option_copied}
use Rattle.mol_base.specs.Order.{id_cmp, id_cmp-total}
use Rattle.mol_base.specs.declared.ident.Id.{Id}
use Rattle.mol_table_rules.specs.Heights.{upward}
use Rattle.mol_values_types.proofs.Lookups.{get_is}
use Rattle.mol_values_types.proofs.Ties.{id_ties}
use Rattle.mol_values_types.specs.Order.{id_eq}
use Rattle.mol_scope_classes.specs.hierarchy.Forest.{top_place}
use Rattle.mol_scope_classes.specs.hierarchy.Placed.{number_in, ArePlaced, AreNew, IsLine, Adds, Keeps}
use Rattle.mol_table_rules.specs.Heights.{Leads}
use Rattle.mol_scope_classes.proofs.hierarchy_lemmas.LinesTopped.{pushed, unmet-before, same-keys, found-at, circle-ended, pushed-new, last-ended, ended-placed, ended-line, ended-kept, ended-unplaced, of-line, of-state}
use Rattle.mol_scope_classes.proofs.hierarchy_lemmas.OnWays.{left, fewer-left, appended, above-known}
use Rattle.mol_scope_classes.proofs.hierarchy_lemmas.Tops.{leads-push}
use Rattle.mol_scope_classes.proofs.hierarchy.forest.Forest.line_up.Goals as goal

pub returns-in-Some-clause-line : goal.returns-in-Some-clause-line
returns-in-Some-clause-line c = record {
  at = c.up.at;
  leads = c.up.invariant.leads;
  is = sym (c.get.ensures.value ∙ get_is id_cmp id_eq id_ties id_cmp-total c.up.at c.up.self.numbers.entries)
      ∙ ap option_copied c.in-Some.is;
}

pub returns-in-Some-clause-placed : goal.returns-in-Some-clause-placed
returns-in-Some-clause-placed c = c.up.invariant.placed

pub returns-in-Some-clause-kept : goal.returns-in-Some-clause-kept
returns-in-Some-clause-kept c = c.up.invariant.kept

-- ---- a circle

pub returns-then-not-is_new-clause-line : goal.returns-then-not-is_new-clause-line
returns-then-not-is_new-clause-line c =
    let program = c.args.table.now in
    let numbers = c.up.self.numbers.entries in
    let places = c.up.self.places.items in
    let keys : List Id = c.up.classes.keys in
    let more : List Id = c.insert_full.new.self.keys in
    let first : ℕ = c.in_ok-first.first in
    let new_numbers = c.topped.new.self.numbers.entries in
    let new_places = c.topped.new.self.places.items in
    let stored = c.in_ok-first.ensures.stored in
    let ended = circle-ended program numbers c.args.class c.up.at keys more first c.up.invariant.leads c.up.invariant.unplaced
    (found-at more first c.up.at stored.0 stored.1 stored.2)
    (same-keys keys more c.up.at c.in_ok-first.is_new c.in_ok-first.ensures.added c.in_ok-first.ensures.keys c.if-not-is_new.true) in
    of-line c.topped.result (take first more) (length places)
    (Adds numbers places (drop first more) (top_place (length places)) new_numbers new_places)
    c.topped.ensures.left c.topped.ensures.above c.topped.ensures.added (λ ids number. IsLine program new_numbers c.args.class ids number)
    (λ adds. ended-line program numbers places c.args.class c.up.at more first ended new_numbers new_places adds)

pub returns-then-not-is_new-clause-unplaced : goal.returns-then-not-is_new-clause-unplaced
returns-then-not-is_new-clause-unplaced c =
    let program = c.args.table.now in
    let numbers = c.up.self.numbers.entries in
    let places = c.up.self.places.items in
    let keys : List Id = c.up.classes.keys in
    let more : List Id = c.insert_full.new.self.keys in
    let first : ℕ = c.in_ok-first.first in
    let new_numbers = c.topped.new.self.numbers.entries in
    let new_places = c.topped.new.self.places.items in
    let stored = c.in_ok-first.ensures.stored in
    let ended = circle-ended program numbers c.args.class c.up.at keys more first c.up.invariant.leads c.up.invariant.unplaced
    (found-at more first c.up.at stored.0 stored.1 stored.2)
    (same-keys keys more c.up.at c.in_ok-first.is_new c.in_ok-first.ensures.added c.in_ok-first.ensures.keys c.if-not-is_new.true) in
    of-line c.topped.result (take first more) (length places)
    (Adds numbers places (drop first more) (top_place (length places)) new_numbers new_places)
    c.topped.ensures.left c.topped.ensures.above c.topped.ensures.added (λ ids number. AreNew new_numbers ids)
    (λ adds. ended-unplaced program numbers places c.args.class c.up.at more first ended new_numbers new_places adds
    c.in_ok-first.ensures.unique)

pub returns-then-not-is_new-clause-placed : goal.returns-then-not-is_new-clause-placed
returns-then-not-is_new-clause-placed c =
    let program = c.args.table.now in
    let numbers = c.up.self.numbers.entries in
    let places = c.up.self.places.items in
    let keys : List Id = c.up.classes.keys in
    let more : List Id = c.insert_full.new.self.keys in
    let first : ℕ = c.in_ok-first.first in
    let new_numbers = c.topped.new.self.numbers.entries in
    let new_places = c.topped.new.self.places.items in
    let stored = c.in_ok-first.ensures.stored in
    let ended = circle-ended program numbers c.args.class c.up.at keys more first c.up.invariant.leads c.up.invariant.unplaced
    (found-at more first c.up.at stored.0 stored.1 stored.2)
    (same-keys keys more c.up.at c.in_ok-first.is_new c.in_ok-first.ensures.added c.in_ok-first.ensures.keys c.if-not-is_new.true) in
    of-state c.topped.result (Adds numbers places (drop first more) (top_place (length places)) new_numbers new_places)
    (ArePlaced program new_numbers new_places) c.topped.ensures.added
    (λ adds. ended-placed program numbers places c.args.class c.up.at more first ended new_numbers new_places adds c.up.invariant.placed)

pub returns-then-not-is_new-clause-kept : goal.returns-then-not-is_new-clause-kept
returns-then-not-is_new-clause-kept c =
    let program = c.args.table.now in
    let numbers = c.up.self.numbers.entries in
    let places = c.up.self.places.items in
    let keys : List Id = c.up.classes.keys in
    let more : List Id = c.insert_full.new.self.keys in
    let first : ℕ = c.in_ok-first.first in
    let new_numbers = c.topped.new.self.numbers.entries in
    let new_places = c.topped.new.self.places.items in
    let stored = c.in_ok-first.ensures.stored in
    let ended = circle-ended program numbers c.args.class c.up.at keys more first c.up.invariant.leads c.up.invariant.unplaced
    (found-at more first c.up.at stored.0 stored.1 stored.2)
    (same-keys keys more c.up.at c.in_ok-first.is_new c.in_ok-first.ensures.added c.in_ok-first.ensures.keys c.if-not-is_new.true) in
    of-state c.topped.result (Adds numbers places (drop first more) (top_place (length places)) new_numbers new_places)
    (Keeps c.args.self.now.numbers.entries new_numbers) c.topped.ensures.added
    (λ adds class had. ended-kept program numbers places c.args.class c.up.at more first ended new_numbers new_places adds class
    (c.up.invariant.kept class had))

-- ---- the next class

pub up-smaller : goal.up-smaller
up-smaller c =
    let program = c.args.table.now in
    let keys : List Id = c.up.classes.keys in
    let more : List Id = c.insert_full.new.self.keys in
    let at : Id = c.up.at in
    let grown = pushed keys more at c.in_ok-first.is_new c.in_ok-first.ensures.added c.in_ok-first.ensures.keys c.if-not-is_new.false in
    let new = unmet-before keys more at c.in_ok-first.is_new c.in_ok-first.ensures.added c.in_ok-first.ensures.keys c.if-not-is_new.false in
    subst (λ ids. left program ids < left program keys) (sym grown)
    (fewer-left program keys (keys ++ at ∷ []) at c.up.invariant.known new (λ x. appended program keys at x))

pub up-preserved : goal.up-preserved
up-preserved c =
    let program = c.args.table.now in
    let keys : List Id = c.up.classes.keys in
    let more : List Id = c.insert_full.new.self.keys in
    let at : Id = c.up.at in
    let next : Id = c.in-Some-living_parent.next in
    let grown = pushed keys more at c.in_ok-first.is_new c.in_ok-first.ensures.added c.in_ok-first.ensures.keys c.if-not-is_new.false in
    let up : upward program (Some at) ≡ Some next = sym c.living_parent.ensures ∙ c.in-Some-living_parent.is in
    let bare : number_in c.up.self.numbers.entries at ≡ None =
    sym (c.get.ensures.value ∙ get_is id_cmp id_eq id_ties id_cmp-total at c.up.self.numbers.entries) ∙ ap option_copied c.in_default.is in
    record {
      leads = subst (λ ids. Leads program (Some c.args.class) ids (Some next)) (sym grown)
          (subst (Leads program (Some c.args.class) (keys ++ at ∷ [])) up
          (leads-push program (Some c.args.class) keys at c.up.invariant.leads));
      unplaced = subst (AreNew c.up.self.numbers.entries) (sym grown)
          (pushed-new c.up.self.numbers.entries keys at c.up.invariant.unplaced bare);
      known = above-known program c.requires.rules at next up;
      placed = c.up.invariant.placed;
      kept = c.up.invariant.kept;
    }

-- ---- the last class

pub returns-in-None-clause-line : goal.returns-in-None-clause-line
returns-in-None-clause-line c =
    let program = c.args.table.now in
    let numbers = c.up.self.numbers.entries in
    let places = c.up.self.places.items in
    let keys : List Id = c.up.classes.keys in
    let more : List Id = c.insert_full.new.self.keys in
    let first : ℕ = c.in_ok-first.first in
    let new_numbers = c.topped-in-None.new.self.numbers.entries in
    let new_places = c.topped-in-None.new.self.places.items in
    let stored = c.in_ok-first.ensures.stored in
    let is_new = c.in_ok-first.is_new in
    let bare : number_in numbers c.up.at ≡ None =
    sym (c.get.ensures.value ∙ get_is id_cmp id_eq id_ties id_cmp-total c.up.at numbers) ∙ ap option_copied c.in_default.is in
    let ended = last-ended program numbers c.args.class c.up.at keys more first c.up.invariant.leads c.up.invariant.unplaced
    (found-at more first c.up.at stored.0 stored.1 stored.2)
    (pushed keys more c.up.at is_new c.in_ok-first.ensures.added c.in_ok-first.ensures.keys c.if-not-is_new.false)
    (sym c.living_parent.ensures ∙ c.in-None.is) bare
    (unmet-before keys more c.up.at is_new c.in_ok-first.ensures.added c.in_ok-first.ensures.keys c.if-not-is_new.false) in
    of-line c.topped-in-None.result (take first more) (length places)
    (Adds numbers places (drop first more) (top_place (length places)) new_numbers new_places)
    c.topped-in-None.ensures.left c.topped-in-None.ensures.above c.topped-in-None.ensures.added
    (λ ids number. IsLine program new_numbers c.args.class ids number)
    (λ adds. ended-line program numbers places c.args.class c.up.at more first ended new_numbers new_places adds)

pub returns-in-None-clause-unplaced : goal.returns-in-None-clause-unplaced
returns-in-None-clause-unplaced c =
    let program = c.args.table.now in
    let numbers = c.up.self.numbers.entries in
    let places = c.up.self.places.items in
    let keys : List Id = c.up.classes.keys in
    let more : List Id = c.insert_full.new.self.keys in
    let first : ℕ = c.in_ok-first.first in
    let new_numbers = c.topped-in-None.new.self.numbers.entries in
    let new_places = c.topped-in-None.new.self.places.items in
    let stored = c.in_ok-first.ensures.stored in
    let is_new = c.in_ok-first.is_new in
    let bare : number_in numbers c.up.at ≡ None =
    sym (c.get.ensures.value ∙ get_is id_cmp id_eq id_ties id_cmp-total c.up.at numbers) ∙ ap option_copied c.in_default.is in
    let ended = last-ended program numbers c.args.class c.up.at keys more first c.up.invariant.leads c.up.invariant.unplaced
    (found-at more first c.up.at stored.0 stored.1 stored.2)
    (pushed keys more c.up.at is_new c.in_ok-first.ensures.added c.in_ok-first.ensures.keys c.if-not-is_new.false)
    (sym c.living_parent.ensures ∙ c.in-None.is) bare
    (unmet-before keys more c.up.at is_new c.in_ok-first.ensures.added c.in_ok-first.ensures.keys c.if-not-is_new.false) in
    of-line c.topped-in-None.result (take first more) (length places)
    (Adds numbers places (drop first more) (top_place (length places)) new_numbers new_places)
    c.topped-in-None.ensures.left c.topped-in-None.ensures.above c.topped-in-None.ensures.added (λ ids number. AreNew new_numbers ids)
    (λ adds. ended-unplaced program numbers places c.args.class c.up.at more first ended new_numbers new_places adds
    c.in_ok-first.ensures.unique)

pub returns-in-None-clause-placed : goal.returns-in-None-clause-placed
returns-in-None-clause-placed c =
    let program = c.args.table.now in
    let numbers = c.up.self.numbers.entries in
    let places = c.up.self.places.items in
    let keys : List Id = c.up.classes.keys in
    let more : List Id = c.insert_full.new.self.keys in
    let first : ℕ = c.in_ok-first.first in
    let new_numbers = c.topped-in-None.new.self.numbers.entries in
    let new_places = c.topped-in-None.new.self.places.items in
    let stored = c.in_ok-first.ensures.stored in
    let is_new = c.in_ok-first.is_new in
    let bare : number_in numbers c.up.at ≡ None =
    sym (c.get.ensures.value ∙ get_is id_cmp id_eq id_ties id_cmp-total c.up.at numbers) ∙ ap option_copied c.in_default.is in
    let ended = last-ended program numbers c.args.class c.up.at keys more first c.up.invariant.leads c.up.invariant.unplaced
    (found-at more first c.up.at stored.0 stored.1 stored.2)
    (pushed keys more c.up.at is_new c.in_ok-first.ensures.added c.in_ok-first.ensures.keys c.if-not-is_new.false)
    (sym c.living_parent.ensures ∙ c.in-None.is) bare
    (unmet-before keys more c.up.at is_new c.in_ok-first.ensures.added c.in_ok-first.ensures.keys c.if-not-is_new.false) in
    of-state c.topped-in-None.result (Adds numbers places (drop first more) (top_place (length places)) new_numbers new_places)
    (ArePlaced program new_numbers new_places) c.topped-in-None.ensures.added
    (λ adds. ended-placed program numbers places c.args.class c.up.at more first ended new_numbers new_places adds c.up.invariant.placed)

pub returns-in-None-clause-kept : goal.returns-in-None-clause-kept
returns-in-None-clause-kept c =
    let program = c.args.table.now in
    let numbers = c.up.self.numbers.entries in
    let places = c.up.self.places.items in
    let keys : List Id = c.up.classes.keys in
    let more : List Id = c.insert_full.new.self.keys in
    let first : ℕ = c.in_ok-first.first in
    let new_numbers = c.topped-in-None.new.self.numbers.entries in
    let new_places = c.topped-in-None.new.self.places.items in
    let stored = c.in_ok-first.ensures.stored in
    let is_new = c.in_ok-first.is_new in
    let bare : number_in numbers c.up.at ≡ None =
    sym (c.get.ensures.value ∙ get_is id_cmp id_eq id_ties id_cmp-total c.up.at numbers) ∙ ap option_copied c.in_default.is in
    let ended = last-ended program numbers c.args.class c.up.at keys more first c.up.invariant.leads c.up.invariant.unplaced
    (found-at more first c.up.at stored.0 stored.1 stored.2)
    (pushed keys more c.up.at is_new c.in_ok-first.ensures.added c.in_ok-first.ensures.keys c.if-not-is_new.false)
    (sym c.living_parent.ensures ∙ c.in-None.is) bare
    (unmet-before keys more c.up.at is_new c.in_ok-first.ensures.added c.in_ok-first.ensures.keys c.if-not-is_new.false) in
    of-state c.topped-in-None.result (Adds numbers places (drop first more) (top_place (length places)) new_numbers new_places)
    (Keeps c.args.self.now.numbers.entries new_numbers) c.topped-in-None.ensures.added
    (λ adds class had. ended-kept program numbers places c.args.class c.up.at more first ended new_numbers new_places adds class
    (c.up.invariant.kept class had))
