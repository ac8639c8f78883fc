-- What is noted of parts, one after the other, and the locals that stay in scope meanwhile.
use Rattle.std.proofs.Common.{◌≡◌, ℕ, ◌+◌, ◌<◌, ◌≤◌, List, [], ◌∷◌, ◌++◌, map, length, take, get_or, refl, sym, ap, ◌∙◌, subst, arith}
use Rattle.std.proofs.lemmas.List.{append-nil, length-take, map_push, take-take, take_all, take_more}
use Rattle.mol_base.specs.declared.ident.Id.{Id}
use Rattle.mol_faults_misread.specs.body_misreads.NotedOn.{NotedOn}
use Rattle.mol_spell_uses.proofs.body_uses_lemmas.InTurn.{declared_stays}
use Rattle.mol_spell_uses.specs.body_uses.Loops.{in_own_block}
use Rattle.mol_faults_expr.proofs.NotedMore.{noted-append}
use Rattle.mol_faults_expr.specs.Noted.{Noted, noted_after}
use Rattle.mol_resolve_rules.specs.Locals.{Local, Locals, at_end_of_block, declare}
use Rattle.mol_spell_rules.specs.SpelledStatements.{Spells, each, then_next}
use Rattle.mol_spell_rules.specs.Writers.{Reference, Writer}

-- # Locals in scope

taken : (numbers : List ℕ) → take (length numbers) numbers ≡ numbers
taken numbers = take_all (length numbers) numbers (omega arith)

-- what stays in scope over one thing and over the next stays over both
stays : (a b c : List ℕ) → take (length a) b ≡ a → take (length b) c ≡ b → take (length a) c ≡ a
stays a b c first next =
    let within : length a ≤ length b = let l = length-take (length a) b in let e = ap length first in omega arith in
    sym (take-take (length a) (length b) c within) ∙ ap (take (length a)) next ∙ first

module _ (writer : Writer) where
  abbrev notes : Noted → List Reference → Noted
  notes = noted_after writer

  -- # One part

  module _ {A : Type 0} (part : Spells A) (locals : Locals Id) (noted : Noted) where
    -- what declares nothing
    pub none_declared : (more : Noted) → (part locals).locals ≡ locals → more ≡ notes noted (part locals).references
        → NotedOn writer part locals noted locals more
    none_declared more none is = record { are_noted = is; are_declared = sym none; stay_in_scope = taken locals.in_scope }

    -- what neither declares anything nor has references
    pub nothing : (part locals).locals ≡ locals → (part locals).references ≡ [] → NotedOn writer part locals noted locals noted
    nothing none empty = none_declared noted none (sym (ap (notes noted) empty))

    -- what has the same references and declares the same
    pub retold : {B : Type 0} (other : Spells B) (after : Locals Id) (more : Noted)
        → (other locals).references ≡ (part locals).references → (other locals).locals ≡ (part locals).locals
        → NotedOn writer part locals noted after more → NotedOn writer other locals noted after more
    retold other after more same same_locals goes = record {
      are_noted = goes.are_noted ∙ ap (notes noted) (sym same);
      are_declared = goes.are_declared ∙ sym same_locals;
      stay_in_scope = goes.stay_in_scope;
    }

    -- the end of a block gives back the scope
    pub block_ends : (after ended : Locals Id) (more : Noted) → NotedOn writer part locals noted after more
        → ended ≡ record { declared = after.declared; in_scope = take (length locals.in_scope) after.in_scope }
        → NotedOn writer (in_own_block part) locals noted ended more
    block_ends after ended more goes is =
        let back : ended ≡ at_end_of_block locals (part locals).locals =
        is ∙ (λ i. record { declared = (goes.are_declared i).declared; in_scope = goes.stay_in_scope i })
        in
        record {
          are_noted = goes.are_noted;
          are_declared = back;
          stay_in_scope = ap (λ (then : Locals Id). take (length locals.in_scope) then.in_scope) back ∙ taken locals.in_scope;
        }

  -- # A part, and what comes after it

  pub then_on : {A B : Type 0} (part : Spells A) (further : Spells B) (locals middle after : Locals Id) (noted between more : Noted)
      → NotedOn writer part locals noted middle between → NotedOn writer further middle between after more
      → NotedOn writer (λ locals. then_next (part locals) further) locals noted after more
  then_on part further locals middle after noted between more first next =
      let then : Locals Id = (part locals).locals in
      record {
        are_noted = next.are_noted ∙ (λ i. notes (first.are_noted i) (further (first.are_declared i)).references)
            ∙ sym (noted-append writer noted (part locals).references (further then).references);
        are_declared = next.are_declared ∙ (λ i. (further (first.are_declared i)).locals);
        stay_in_scope = stays locals.in_scope middle.in_scope after.in_scope first.stay_in_scope next.stay_in_scope;
      }

  -- a part, with a local that is declared before it
  pub declared_first : {A : Type 0} (local : Local Id) (part : Spells A) (locals middle after : Locals Id) (noted more : Noted)
      → middle ≡ declare local locals → NotedOn writer part middle noted after more
      → NotedOn writer (λ locals. part (declare local locals)) locals noted after more
  declared_first local part locals middle after noted more declared goes = record {
    are_noted = goes.are_noted ∙ (λ i. notes noted (part (declared i)).references);
    are_declared = goes.are_declared ∙ (λ i. (part (declared i)).locals);
    stay_in_scope = stays locals.in_scope middle.in_scope after.in_scope (declared_stays local locals middle declared) goes.stay_in_scope;
  }

  -- # Several

  module _ {A : Type 0} where
    noted_more : (parts : List (Spells A)) (next : Spells A) (locals : Locals Id) (noted : Noted)
        → notes noted (each (parts ++ next ∷ []) locals).references
        ≡ notes (notes noted (each parts locals).references) (next (each parts locals).locals).references
    noted_more [] next locals noted = ap (notes noted) (append-nil (next locals).references)
    noted_more (part ∷ parts) next locals noted =
        let then : Locals Id = (part locals).locals in
        noted-append writer noted (part locals).references (each (parts ++ next ∷ []) then).references
        ∙ noted_more parts next then (notes noted (part locals).references)
        ∙ ap (λ noted. notes noted (next (each parts then).locals).references)
        (sym (noted-append writer noted (part locals).references (each parts then).references))

    locals_more : (parts : List (Spells A)) (next : Spells A) (locals : Locals Id)
        → (each (parts ++ next ∷ []) locals).locals ≡ (next (each parts locals).locals).locals
    locals_more [] next locals = refl
    locals_more (part ∷ parts) next locals = locals_more parts next (part locals).locals

  module _ {S A : Type 0} (spell : S → Spells A) where
    abbrev all_of : List S → Spells (List A)
    all_of items = each (map spell items)

    -- none so far
    pub each_none : (locals : Locals Id) (noted : Noted) → NotedOn writer (all_of []) locals noted locals noted
    each_none locals noted = nothing (all_of []) locals noted refl refl

    -- one more of several
    pub each_more : (items : List S) (i : ℕ) (item : S) (locals middle after : Locals Id) (noted between more : Noted) → i < length items
        → item ≡ get_or items i item → NotedOn writer (all_of (take i items)) locals noted middle between
        → NotedOn writer (spell item) middle between after more → NotedOn writer (all_of (take (i + 1) items)) locals noted after more
    each_more items i item locals middle after noted between more within at first next =
        let further : take (i + 1) items ≡ take i items ++ item ∷ [] =
        take_more items i item within ∙ ap (λ item. take i items ++ item ∷ []) (sym at)
        in
        let parts : map spell (take (i + 1) items) ≡ map spell (take i items) ++ spell item ∷ [] =
        ap (map spell) further ∙ map_push spell (take i items) item
        in
        let before : List (Spells A) = map spell (take i items) in
        record {
          are_noted = next.are_noted ∙ (λ j. notes (first.are_noted j) (spell item (first.are_declared j)).references)
              ∙ sym (ap (λ parts. notes noted (each parts locals).references) parts ∙ noted_more before (spell item) locals noted);
          are_declared = next.are_declared ∙ (λ j. (spell item (first.are_declared j)).locals)
              ∙ sym (ap (λ parts. (each parts locals).locals) parts ∙ locals_more before (spell item) locals);
          stay_in_scope = stays locals.in_scope middle.in_scope after.in_scope first.stay_in_scope next.stay_in_scope;
        }

    pub each_whole : (items : List S) (i : ℕ) (locals after : Locals Id) (noted more : Noted) → length items ≤ i
        → NotedOn writer (all_of (take i items)) locals noted after more → NotedOn writer (all_of items) locals noted after more
    each_whole items i locals after noted more past goes =
        subst (λ items. NotedOn writer (all_of items) locals noted after more) (take_all i items past) goes
