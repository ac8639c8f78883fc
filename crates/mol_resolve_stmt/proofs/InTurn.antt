-- What is read one after the other, and the locals that stay in scope meanwhile.
use Rattle.std.proofs.Common.{◌≡◌, ℕ, ◌+◌, ◌<◌, ◌≤◌, List, [], ◌∷◌, ◌++◌, map, length, take, get_or, Option, Some, option_map, append_assoc, refl, sym, ap, ◌∙◌, subst, arith}
use Rattle.std.specs.Option.{option_zip}
use Rattle.std.proofs.lemmas.List.{append-nil}
use Rattle.std.proofs.lemmas.List.{take-take, take_all, take_more, take-append-le, map_push, length-take}
use Rattle.mol_resolve_expr.proofs.Outcomes.{noted_on, made_read, both_read}
use Rattle.mol_resolve_expr.proofs.Several.{put_last, last_alone, last_further}
use Rattle.mol_resolve_readings.specs.reads.Reads.{Reads}
use Rattle.mol_resolve_readings.specs.locals.Scoped.{Scoped, locals_of}
use Rattle.mol_resolve_faults.specs.First.{all_noted}
use Rattle.mol_resolve_rules.specs.Locals.{Local, Locals, declare, at_end_of_block}
use Rattle.mol_resolve_rules.specs.Outcomes.{TreeFault, Outcome, with_faults, fine, put_first}
use Rattle.mol_resolve_rules.specs.ReadStatements.{ReadOn, ReadsTo, declaring_none, mapped_on, followed_by, then_next, each, in_block}
use Rattle.mol_resolve_stmt.specs.GoesOn.{GoesOn}

-- # Locals in scope

taken : (numbers : List ℕ) → take (length numbers) numbers ≡ numbers
taken numbers = take_all (length numbers) numbers (omega arith)

-- what stays in scope over one thing and over the next stays over both
stays : (a b c : List ℕ) → take (length a) b ≡ a → take (length b) c ≡ b → take (length a) c ≡ a
stays a b c first next =
    let within : length a ≤ length b = let l = length-take (length a) b in let e = ap length first in omega arith in
    sym (take-take (length a) (length b) c within) ∙ ap (take (length a)) next ∙ first

declared_stays : (local : Local ℕ) (locals declared : Locals ℕ) → declared ≡ declare local locals
    → take (length locals.in_scope) declared.in_scope ≡ locals.in_scope
declared_stays local locals declared is =
    ap (λ (locals_then : Locals ℕ). take (length locals.in_scope) locals_then.in_scope) is
    ∙ take-append-le (length locals.in_scope) locals.in_scope (length locals.declared ∷ []) (omega arith) ∙ taken locals.in_scope

pub none_declared : {A : Type 0} (outcome : Outcome A) (value : Option A) (locals : Locals ℕ) (first next : Option TreeFault)
    → Reads outcome value first next → GoesOn (declaring_none locals outcome) value locals locals first next
none_declared outcome value locals first next read =
    record { is_read = read; are_declared = refl; stay_in_scope = taken locals.in_scope }

-- the end of a block, as the code has it
pub scope_back : (before after ended : Scoped) (mark : ℕ) → mark ≡ length before.in_scope
    → ended ≡ record after { in_scope = take mark after.in_scope }
    → locals_of ended ≡ record {
      declared = (locals_of after).declared;
      in_scope = take (length (locals_of before).in_scope) (locals_of after).in_scope;
    }
scope_back before after ended mark marked is =
    ap locals_of is ∙ (λ i. record { declared = (locals_of after).declared; in_scope = take (marked i) after.in_scope })

module _ {A B : Type 0} where
  pub made_on : (make : A → B) (part : ReadOn ℕ A) (x : Option A) (z : Option B) (locals after : Locals ℕ) (first next : Option TreeFault)
      → GoesOn part x locals after first next → z ≡ option_map make x → GoesOn (mapped_on make part) z locals after first next
  made_on make part x z locals after first next goes is = record {
    is_read = made_read make part.outcome x z first next goes.is_read is;
    are_declared = goes.are_declared;
    stay_in_scope = goes.stay_in_scope;
  }

  -- what is made of something, and of what is read after it
  pub then_on : (one : ReadOn ℕ A) (next : ReadsTo ℕ B) (x : Option A) (y : Option B) (locals middle after : Locals ℕ)
      (first second third : Option TreeFault) → GoesOn one x locals middle first second → GoesOn (next middle) y middle after second third
      → GoesOn (then_next one next) (option_zip x y) locals after first third
  then_on one next x y locals middle after first second third goes further =
      let on : GoesOn (next one.locals) y middle after second third =
      subst (λ between. GoesOn (next between) y middle after second third) goes.are_declared further
      in
      record {
        is_read = both_read one.outcome (next one.locals).outcome x y first second third goes.is_read on.is_read;
        are_declared = on.are_declared;
        stay_in_scope = stays locals.in_scope middle.in_scope after.in_scope goes.stay_in_scope on.stay_in_scope;
      }

module _ {A : Type 0} where
  -- by another name of the same
  pub goes_as : (part same : ReadOn ℕ A) (value : Option A) (locals after : Locals ℕ) (first next : Option TreeFault) → part ≡ same
      → GoesOn same value locals after first next → GoesOn part value locals after first next
  goes_as part same value locals after first next is =
      subst (λ (part : ReadOn ℕ A). GoesOn part value locals after first next) (sym is)

  -- what declares nothing and has no fault
  pub fine_on : (a : A) (locals : Locals ℕ) (first : Option TreeFault)
      → GoesOn (declaring_none locals (fine a)) (Some a) locals locals first first
  fine_on a locals first = none_declared (fine a) (Some a) locals first first (record { value_read = refl; faults_noted = refl })

  -- the end of a block gives back the scope
  pub block_ends : (part : ReadOn ℕ A) (value : Option A) (locals after ended : Locals ℕ) (first next : Option TreeFault)
      → GoesOn part value locals after first next
      → ended ≡ record { declared = after.declared; in_scope = take (length locals.in_scope) after.in_scope }
      → GoesOn (in_block locals part) value locals ended first next
  block_ends part value locals after ended first next goes is =
      let back : ended ≡ at_end_of_block locals part.locals =
      is ∙ (λ i. record { declared = (goes.are_declared i).declared; in_scope = goes.stay_in_scope i })
      in
      record {
        is_read = goes.is_read;
        are_declared = back;
        stay_in_scope = ap (λ (locals_then : Locals ℕ). take (length locals.in_scope) locals_then.in_scope) back ∙ taken locals.in_scope;
      }

  -- a local is declared, and then something is read
  pub after_declaring : (local : Local ℕ) (faults : List TreeFault) (part : ReadOn ℕ A) (value : Option A)
      (locals declared after : Locals ℕ) (first second third : Option TreeFault) → declared ≡ declare local locals
      → second ≡ all_noted first faults → GoesOn part value declared after second third
      → GoesOn (record { locals = part.locals; outcome = with_faults faults part.outcome }) value locals after first third
  after_declaring local faults part value locals declared after first second third is noted goes = record {
    is_read = record {
      value_read = goes.is_read.value_read;
      faults_noted = noted_on faults part.outcome.faults first second third noted goes.is_read.faults_noted;
    };
    are_declared = goes.are_declared;
    stay_in_scope = stays locals.in_scope declared.in_scope after.in_scope (declared_stays local locals declared is) goes.stay_in_scope;
  }

  -- something is read, and then a local is declared
  pub then_declared : (local : Local ℕ) (faults : List TreeFault) (part : Outcome A) (value : Option A) (locals declared : Locals ℕ)
      (first second third : Option TreeFault) → Reads part value first second → declared ≡ declare local locals
      → third ≡ all_noted second faults
      → GoesOn (record { locals = declare local locals; outcome = record { value = part.value; faults = part.faults ++ faults } })
      value locals declared first third
  then_declared local faults part value locals declared first second third read is noted = record {
    is_read = record {
      value_read = read.value_read;
      faults_noted = noted_on part.faults faults first second third read.faults_noted noted;
    };
    are_declared = is;
    stay_in_scope = declared_stays local locals declared is;
  }

  -- # Several

  pub each_more : (parts : List (ReadsTo ℕ A)) (next : ReadsTo ℕ A) (locals : Locals ℕ)
      → each (parts ++ next ∷ []) locals ≡ mapped_on put_last (then_next (each parts locals) next)
  each_more [] next locals = λ i. record {
    locals = (next locals).locals;
    outcome = record { value = last_alone (next locals).outcome.value i; faults = append-nil (next locals).outcome.faults i };
  }
  each_more (part ∷ parts) next locals =
      let inside : Locals ℕ = (part locals).locals in
      let rest : ReadOn ℕ (List A) = each parts inside in
      ap (λ (further : ReadOn ℕ (List A)). mapped_on put_first (followed_by (part locals) further)) (each_more parts next inside)
      ∙ (λ i. record {
        locals = (next rest.locals).locals;
        outcome = record {
          value = last_further (part locals).outcome.value rest.outcome.value (next rest.locals).outcome.value i;
          faults = sym (append_assoc (part locals).outcome.faults rest.outcome.faults (next rest.locals).outcome.faults) i;
        };
      })

module _ {S A : Type 0} (read : S → ReadsTo ℕ A) where
  -- one more of several
  pub each_read-more : (items : List S) (i : ℕ) (item : S) (all longer : Option (List A)) (value : Option A)
      (locals middle after : Locals ℕ) (first second third : Option TreeFault) → i < length items → item ≡ get_or items i item
      → GoesOn (each (map read (take i items)) locals) all locals middle first second
      → GoesOn (read item middle) value middle after second third
      → longer ≡ option_map put_last (option_zip all value)
      → GoesOn (each (map read (take (i + 1) items)) locals) longer locals after first third
  each_read-more items i item all longer value locals middle after first second third within at one two is =
      let further : take (i + 1) items ≡ take i items ++ item ∷ [] =
      take_more items i item within ∙ ap (λ item. take i items ++ item ∷ []) (sym at)
      in
      let same : each (map read (take (i + 1) items)) locals
      ≡ mapped_on put_last (then_next (each (map read (take i items)) locals) (read item)) =
      ap (λ parts. each parts locals) (ap (map read) further ∙ map_push read (take i items) item)
      ∙ each_more (map read (take i items)) (read item) locals
      in
      subst (λ part. GoesOn part longer locals after first third) (sym same)
      (made_on put_last (then_next (each (map read (take i items)) locals) (read item)) (option_zip all value) longer locals after
      first third
      (then_on (each (map read (take i items)) locals) (read item) all value locals middle after first second third one two) is)

  -- none is read yet
  pub each_read-none : (items : List S) (all : Option (List A)) (locals : Locals ℕ) (first : Option TreeFault) → all ≡ Some []
      → GoesOn (each (map read (take 0 items)) locals) all locals locals first first
  each_read-none items all locals first is =
      none_declared (fine []) all locals first first (record { value_read = is; faults_noted = refl })

  -- all are read; the list may be found as another one
  pub each_read-whole : (items whole : List S) (i : ℕ) (all : Option (List A)) (locals after : Locals ℕ) (first next : Option TreeFault)
      → items ≡ whole → length items ≤ i → GoesOn (each (map read (take i items)) locals) all locals after first next
      → GoesOn (each (map read whole) locals) all locals after first next
  each_read-whole items whole i all locals after first next same past =
      subst (λ items. GoesOn (each (map read items) locals) all locals after first next) (take_all i items past ∙ same)
