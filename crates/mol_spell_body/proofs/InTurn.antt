-- What is written one after the other, and the locals that stay in scope meanwhile.
use Rattle.std.proofs.Common.{◌≡◌, ℕ, ◌+◌, ◌<◌, ◌≤◌, List, [], ◌∷◌, ◌++◌, map, length, take, get_or, refl, sym, ap, ◌∙◌, subst, arith}
use Rattle.std.proofs.lemmas.List.{take-take, take_all, take_more, take-append-le, map_push, length-take}
use Rattle.mol_base.specs.declared.ident.Id.{Id}
use Rattle.mol_spell_body.specs.GoesOn.{GoesOn}
use Rattle.mol_resolve_rules.specs.Locals.{Local, Locals, declare, at_end_of_block}
use Rattle.mol_spell_rules.specs.SpelledStatements.{Spells, each, in_block, mapped, then_next}

-- # Locals in scope

taken : (numbers : List ℕ) → take (length numbers) numbers ≡ numbers
taken numbers = take_all (length numbers) numbers (omega arith)

-- what stays in scope over one thing and over the next stays over both
stays : (a b c : List ℕ) → take (length a) b ≡ a → take (length b) c ≡ b → take (length a) c ≡ a
stays a b c first next =
    let within : length a ≤ length b = let l = length-take (length a) b in let e = ap length first in omega arith in
    sym (take-take (length a) (length b) c within) ∙ ap (take (length a)) next ∙ first

pub declared_stays : (local : Local Id) (locals after : Locals Id) → after ≡ declare local locals
    → take (length locals.in_scope) after.in_scope ≡ locals.in_scope
declared_stays local locals after is =
    ap (λ (then : Locals Id). take (length locals.in_scope) then.in_scope) is
    ∙ take-append-le (length locals.in_scope) locals.in_scope (length locals.declared ∷ []) (omega arith) ∙ taken locals.in_scope

module _ {A : Type 0} where
  -- what declares nothing
  pub none_declared : (part : Spells A) (tree : A) (locals : Locals Id) → (part locals).locals ≡ locals → tree ≡ (part locals).tree
      → GoesOn part tree locals locals
  none_declared part tree locals none is =
      record { is_written = is; are_declared = sym none; stay_in_scope = taken locals.in_scope }

  -- the same, in other words
  pub said_so : (part other : Spells A) (tree : A) (locals after : Locals Id) → other locals ≡ part locals
      → GoesOn part tree locals after → GoesOn other tree locals after
  said_so part other tree locals after same goes = record {
    is_written = goes.is_written ∙ sym (ap (λ part. part.tree) same);
    are_declared = goes.are_declared ∙ sym (ap (λ part. part.locals) same);
    stay_in_scope = goes.stay_in_scope;
  }

  -- the end of a block gives back the scope
  pub block_ends : (part : Spells A) (tree : A) (locals after ended : Locals Id) → GoesOn part tree locals after
      → ended ≡ record { declared = after.declared; in_scope = take (length locals.in_scope) after.in_scope }
      → GoesOn (λ locals. in_block locals (part locals)) tree locals ended
  block_ends part tree locals after ended goes is =
      let back : ended ≡ at_end_of_block locals (part locals).locals =
      is ∙ (λ i. record { declared = (goes.are_declared i).declared; in_scope = goes.stay_in_scope i })
      in
      record {
        is_written = goes.is_written;
        are_declared = back;
        stay_in_scope = ap (λ (then : Locals Id). take (length locals.in_scope) then.in_scope) back ∙ taken locals.in_scope;
      }

  -- the same tree, in other words
  pub same_tree : (part : Spells A) (tree other : A) (locals after : Locals Id) → other ≡ tree → GoesOn part tree locals after
      → GoesOn part other locals after
  same_tree part tree other locals after same goes =
      record { is_written = same ∙ goes.is_written; are_declared = goes.are_declared; stay_in_scope = goes.stay_in_scope }

module _ {A B : Type 0} where
  pub made_on : (make : A → B) (part : Spells A) (x : A) (z : B) (locals after : Locals Id) → GoesOn part x locals after → z ≡ make x
      → GoesOn (λ locals. mapped make (part locals)) z locals after
  made_on make part x z locals after goes is =
      record { is_written = is ∙ ap make goes.is_written; are_declared = goes.are_declared; stay_in_scope = goes.stay_in_scope }

  -- something, and what is written after it
  pub then_on : (one : Spells A) (further : Spells B) (x : A) (y : B) (locals middle after : Locals Id) → GoesOn one x locals middle
      → GoesOn further y middle after → GoesOn (λ locals. then_next (one locals) further) (x, y) locals after
  then_on one further x y locals middle after first next = record {
    is_written = λ i. (first.is_written i, (next.is_written ∙ (λ j. (further (first.are_declared j)).tree)) i);
    are_declared = next.are_declared ∙ (λ j. (further (first.are_declared j)).locals);
    stay_in_scope = stays locals.in_scope middle.in_scope after.in_scope first.stay_in_scope next.stay_in_scope;
  }

-- # Several

module _ {A : Type 0} where
  tree_more : (parts : List (Spells A)) (next : Spells A) (locals : Locals Id)
      → (each (parts ++ next ∷ []) locals).tree ≡ (each parts locals).tree ++ (next (each parts locals).locals).tree ∷ []
  tree_more [] next locals = refl
  tree_more (part ∷ parts) next locals = ap (λ rest. (part locals).tree ∷ rest) (tree_more parts next (part locals).locals)

  locals_more : (parts : List (Spells A)) (next : Spells A) (locals : Locals Id)
      → (each (parts ++ next ∷ []) locals).locals ≡ (next (each parts locals).locals).locals
  locals_more [] next locals = refl
  locals_more (part ∷ parts) next locals = locals_more parts next (part locals).locals

module _ {S A : Type 0} (spell : S → Spells A) where
  abbrev all_of : List S → Spells (List A)
  all_of items = each (map spell items)

  -- none so far
  pub each_none : (trees : List A) (locals : Locals Id) → trees ≡ [] → GoesOn (all_of []) trees locals locals
  each_none trees locals is = none_declared (all_of []) trees locals refl is

  -- one more of several
  pub each_more : (items : List S) (i : ℕ) (item : S) (all longer : List A) (tree : A) (locals middle after : Locals Id) → i < length items
      → item ≡ get_or items i item → GoesOn (all_of (take i items)) all locals middle → GoesOn (spell item) tree middle after
      → longer ≡ all ++ tree ∷ [] → GoesOn (all_of (take (i + 1) items)) longer locals after
  each_more items i item all longer tree locals middle after within at first next is =
      let further : take (i + 1) items ≡ take i items ++ item ∷ [] =
      take_more items i item within ∙ ap (λ item. take i items ++ item ∷ []) (sym at)
      in
      let parts : map spell (take (i + 1) items) ≡ map spell (take i items) ++ spell item ∷ [] =
      ap (map spell) further ∙ map_push spell (take i items) item
      in
      let before : List (Spells A) = map spell (take i items) in
      let moved : middle ≡ (each before locals).locals = first.are_declared in
      record {
        is_written = is ∙ (λ j. first.is_written j ++ (next.is_written ∙ (λ k. (spell item (moved k)).tree)) j ∷ [])
            ∙ sym (ap (λ parts. (each parts locals).tree) parts ∙ tree_more before (spell item) locals);
        are_declared = next.are_declared ∙ (λ k. (spell item (moved k)).locals)
            ∙ sym (ap (λ parts. (each parts locals).locals) parts ∙ locals_more before (spell item) locals);
        stay_in_scope = stays locals.in_scope middle.in_scope after.in_scope first.stay_in_scope next.stay_in_scope;
      }

  pub each_whole : (items : List S) (i : ℕ) (all : List A) (locals after : Locals Id) → length items ≤ i
      → GoesOn (all_of (take i items)) all locals after → GoesOn (all_of items) all locals after
  each_whole items i all locals after past goes =
      subst (λ items. GoesOn (all_of items) all locals after) (take_all i items past) goes
