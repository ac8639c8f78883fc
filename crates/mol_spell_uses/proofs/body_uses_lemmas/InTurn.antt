-- What is used one after the other, and the locals that stay in scope meanwhile.
use Rattle.std.proofs.Common.{◌≡◌, ℕ, ◌+◌, ◌<◌, ◌≤◌, List, [], ◌∷◌, ◌++◌, map, length, take, get_or, refl, sym, ap, ◌∙◌, subst, arith, append_assoc}
use Rattle.std.proofs.lemmas.List.{append-nil, length-take, map_push, take-append-le, take-take, take_all, take_more}
use Rattle.mol_base.specs.declared.ident.Id.{Id}
use Rattle.mol_spell_uses.specs.body_uses.Loops.{in_own_block}
use Rattle.mol_spell_uses.specs.body_uses.UsesOn.{UsesOn}
use Rattle.mol_resolve_rules.specs.Locals.{Local, Locals, at_end_of_block, declare}
use Rattle.mol_spell_rules.specs.SpelledStatements.{Spells, each, then_next}
use Rattle.mol_spell_rules.specs.Writers.{Use}
use Rattle.mol_spell_uses.proofs.uses_lemmas.ModeFree.{uses-append}
use Rattle.mol_spell_uses.specs.uses.Uses.{uses_of}

-- # Locals in scope

taken : (numbers : List ℕ) → take (length numbers) numbers ≡ numbers
taken numbers = take_all (length numbers) numbers (omega arith)

-- what stays in scope over one thing and over the next stays over both
stays : (a b c : List ℕ) → take (length a) b ≡ a → take (length b) c ≡ b → take (length a) c ≡ a
stays a b c first next =
    let within : length a ≤ length b = let l = length-take (length a) b in let e = ap length first in omega arith in
    sym (take-take (length a) (length b) c within) ∙ ap (take (length a)) next ∙ first

pub declared_stays : (local : Local Id) (locals after : Locals Id) → after ≡ declare local locals
    → take (length locals.in_scope) after.in_scope ≡ locals.in_scope
declared_stays local locals after is =
    ap (λ (then : Locals Id). take (length locals.in_scope) then.in_scope) is
    ∙ take-append-le (length locals.in_scope) locals.in_scope (length locals.declared ∷ []) (omega arith) ∙ taken locals.in_scope

-- # One part

module _ {A : Type 0} (part : Spells A) (locals : Locals Id) (uses : List Use) where
  -- what declares nothing
  pub none_declared : (more : List Use) → (part locals).locals ≡ locals → more ≡ uses ++ uses_of (part locals).references
      → UsesOn part locals uses locals more
  none_declared more none is = record { are_added = is; are_declared = sym none; stay_in_scope = taken locals.in_scope }

  -- what neither declares nor uses anything
  pub nothing : (part locals).locals ≡ locals → uses_of (part locals).references ≡ [] → UsesOn part locals uses locals uses
  nothing none empty = none_declared uses none (sym (ap (λ us. uses ++ us) empty ∙ append-nil uses))

  -- what uses and declares the same
  pub retold : {B : Type 0} (other : Spells B) (after : Locals Id) (more : List Use)
      → (other locals).references ≡ (part locals).references → (other locals).locals ≡ (part locals).locals
      → UsesOn part locals uses after more → UsesOn other locals uses after more
  retold other after more same same_locals goes = record {
    are_added = goes.are_added ∙ ap (λ references. uses ++ uses_of references) (sym same);
    are_declared = goes.are_declared ∙ sym same_locals;
    stay_in_scope = goes.stay_in_scope;
  }

  -- the end of a block gives back the scope
  pub block_ends : (after ended : Locals Id) (more : List Use) → UsesOn part locals uses after more
      → ended ≡ record { declared = after.declared; in_scope = take (length locals.in_scope) after.in_scope }
      → UsesOn (in_own_block part) locals uses ended more
  block_ends after ended more goes is =
      let back : ended ≡ at_end_of_block locals (part locals).locals =
      is ∙ (λ i. record { declared = (goes.are_declared i).declared; in_scope = goes.stay_in_scope i })
      in
      record {
        are_added = goes.are_added;
        are_declared = back;
        stay_in_scope = ap (λ (then : Locals Id). take (length locals.in_scope) then.in_scope) back ∙ taken locals.in_scope;
      }

-- # A part, and what comes after it

pub then_on : {A B : Type 0} (part : Spells A) (further : Spells B) (locals middle after : Locals Id) (uses between more : List Use)
    → UsesOn part locals uses middle between → UsesOn further middle between after more
    → UsesOn (λ locals. then_next (part locals) further) locals uses after more
then_on part further locals middle after uses between more first next =
    let then : Locals Id = (part locals).locals in
    record {
      are_added = next.are_added ∙ (λ i. first.are_added i ++ uses_of (further (first.are_declared i)).references)
          ∙ append_assoc uses (uses_of (part locals).references) (uses_of (further then).references)
          ∙ ap (λ us. uses ++ us) (sym (uses-append (part locals).references (further then).references));
      are_declared = next.are_declared ∙ (λ i. (further (first.are_declared i)).locals);
      stay_in_scope = stays locals.in_scope middle.in_scope after.in_scope first.stay_in_scope next.stay_in_scope;
    }

-- a part, with a local that is declared before it
pub declared_first : {A : Type 0} (local : Local Id) (part : Spells A) (locals middle after : Locals Id) (uses more : List Use)
    → middle ≡ declare local locals → UsesOn part middle uses after more
    → UsesOn (λ locals. part (declare local locals)) locals uses after more
declared_first local part locals middle after uses more declared goes = record {
  are_added = goes.are_added ∙ (λ i. uses ++ uses_of (part (declared i)).references);
  are_declared = goes.are_declared ∙ (λ i. (part (declared i)).locals);
  stay_in_scope = stays locals.in_scope middle.in_scope after.in_scope (declared_stays local locals middle declared) goes.stay_in_scope;
}

-- # Several

module _ {A : Type 0} where
  uses_more : (parts : List (Spells A)) (next : Spells A) (locals : Locals Id)
      → uses_of (each (parts ++ next ∷ []) locals).references
      ≡ uses_of (each parts locals).references ++ uses_of (next (each parts locals).locals).references
  uses_more [] next locals = ap uses_of (append-nil (next locals).references)
  uses_more (part ∷ parts) next locals =
      let then : Locals Id = (part locals).locals in
      let last : List Use = uses_of (next (each parts then).locals).references in
      uses-append (part locals).references (each (parts ++ next ∷ []) then).references
      ∙ ap (λ us. uses_of (part locals).references ++ us) (uses_more parts next then)
      ∙ sym (append_assoc (uses_of (part locals).references) (uses_of (each parts then).references) last)
      ∙ ap (λ us. us ++ last) (sym (uses-append (part locals).references (each parts then).references))

  locals_more : (parts : List (Spells A)) (next : Spells A) (locals : Locals Id)
      → (each (parts ++ next ∷ []) locals).locals ≡ (next (each parts locals).locals).locals
  locals_more [] next locals = refl
  locals_more (part ∷ parts) next locals = locals_more parts next (part locals).locals

module _ {S A : Type 0} (spell : S → Spells A) where
  abbrev all_of : List S → Spells (List A)
  all_of items = each (map spell items)

  -- none so far
  pub each_none : (locals : Locals Id) (uses : List Use) → UsesOn (all_of []) locals uses locals uses
  each_none locals uses = nothing (all_of []) locals uses refl refl

  -- one more of several
  pub each_more : (items : List S) (i : ℕ) (item : S) (locals middle after : Locals Id) (uses between more : List Use) → i < length items
      → item ≡ get_or items i item → UsesOn (all_of (take i items)) locals uses middle between
      → UsesOn (spell item) middle between after more → UsesOn (all_of (take (i + 1) items)) locals uses after more
  each_more items i item locals middle after uses between more within at first next =
      let further : take (i + 1) items ≡ take i items ++ item ∷ [] =
      take_more items i item within ∙ ap (λ item. take i items ++ item ∷ []) (sym at)
      in
      let parts : map spell (take (i + 1) items) ≡ map spell (take i items) ++ spell item ∷ [] =
      ap (map spell) further ∙ map_push spell (take i items) item
      in
      let before : List (Spells A) = map spell (take i items) in
      let then : Locals Id = (each before locals).locals in
      record {
        are_added = next.are_added ∙ (λ j. first.are_added j ++ uses_of (spell item (first.are_declared j)).references)
            ∙ append_assoc uses (uses_of (each before locals).references) (uses_of (spell item then).references)
            ∙ ap (λ us. uses ++ us)
            (sym (ap (λ parts. uses_of (each parts locals).references) parts ∙ uses_more before (spell item) locals));
        are_declared = next.are_declared ∙ (λ j. (spell item (first.are_declared j)).locals)
            ∙ sym (ap (λ parts. (each parts locals).locals) parts ∙ locals_more before (spell item) locals);
        stay_in_scope = stays locals.in_scope middle.in_scope after.in_scope first.stay_in_scope next.stay_in_scope;
      }

  pub each_whole : (items : List S) (i : ℕ) (locals after : Locals Id) (uses more : List Use) → length items ≤ i
      → UsesOn (all_of (take i items)) locals uses after more → UsesOn (all_of items) locals uses after more
  each_whole items i locals after uses more past goes =
      subst (λ items. UsesOn (all_of items) locals uses after more) (take_all i items past) goes
