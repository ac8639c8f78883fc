-- The comments before a statement and its first word: laws of their reader.
use Rattle.std.proofs.Common.{◌≡◌, ℕ, Bool, true, false, List, [], ◌∷◌, ◌++◌, codes, Option, Some, None, Ok, Err, refl, sym, ap, ◌∙◌}
use Rattle.std.proofs.Common.{append_assoc, if◌then◌else◌, option_map}
use Rattle.std.proofs.lemmas.List.{append-nil}
use Rattle.std.proofs.lemmas.Slice.Eq.{bytes_eq-Decides}
use Rattle.mol_log_words.specs.Words.{Word, has_form}
use Rattle.mol_log_words.specs.Reader.{Outcome}
use Rattle.mol_log_words.specs.FirstBad.{Form}
use Rattle.mol_log_body.specs.Bodies.{are_comments, noted}
use Rattle.mol_log_body.specs.BodyReader.{opened, headed, opening}
use Rattle.mol_log_body.specs.StatementHeads.{is_note, node_spelled, node_fits, node_head_of, any_node_head, branch_head, loop_head}
use Rattle.mol_log_body.specs.StatementHeads.{simple_head, super_head, loop_spelled, simple_spelled, super_spelled}
use Rattle.mol_log_words.specs.Heads.{or_else}
use Rattle.mol_log_body.specs.declared.lists.Opening.{Opening}
use Rattle.mol_log_body.specs.declared.stmt_head.NodeHead.{NodeHead}
use Rattle.mol_log_body.specs.declared.stmt_head.NodeHead.TheVariants as head
use Rattle.mol_log_body.specs.declared.stmt_head.LoopHead.TheVariants as repeated
use Rattle.mol_log_body.specs.declared.stmt_head.SimpleHead.TheVariants as simple
use Rattle.mol_log_body.specs.declared.stmt_head.SuperHead.TheVariants as parent
use Rattle.mol_log_words.specs.declared.text_form.TextForm.TheVariants as form
use Rattle.mol_log_words.proofs.Prefix.{SameHead, Meets, Reads}
use Rattle.mol_log_words.proofs.Single.{kept_is, named_is, or_is, wrapped_is}
use Rattle.mol_log_words.proofs.Numerals.{and_left, and_right}
use Rattle.mol_log_words.proofs.Texts.{a_comment}

loop_is : (v : Word) (h : NodeHead) → option_map head.Loop (loop_head v) ≡ Some h → v ≡ node_spelled h
unfolding loop_head
loop_is v h e = wrapped_is head.Loop (loop_head v) h (λ x. v ≡ node_spelled x) (λ k q. named_is loop_spelled
    (repeated.While ∷ repeated.For ∷ repeated.Each ∷ []) v k q) e

simple_is : (v : Word) (h : NodeHead) → option_map head.Simple (simple_head v) ≡ Some h → v ≡ node_spelled h
unfolding simple_head
simple_is v h e = wrapped_is head.Simple (simple_head v) h (λ x. v ≡ node_spelled x) (λ k q. named_is simple_spelled
    (simple.Do ∷ simple.Return ∷ simple.Throw ∷ simple.Break ∷ simple.Continue ∷ simple.Empty ∷ []) v k q) e

super_is : (v : Word) (h : NodeHead) → option_map head.Super (super_head v) ≡ Some h → v ≡ node_spelled h
unfolding super_head
super_is v h e = wrapped_is head.Super (super_head v) h (λ x. v ≡ node_spelled x) (λ k q. named_is super_spelled
    (parent.Constructor ∷ parent.Default ∷ parent.Outside ∷ []) v k q) e

branch_is : (v : Word) (h : NodeHead) → branch_head v ≡ Some h → v ≡ node_spelled h
unfolding branch_head
branch_is v h e = named_is node_spelled (head.Block ∷ head.Let ∷ head.If ∷ []) v h e

pub node_head_is : (v : Word) (h : NodeHead) → any_node_head v ≡ Some h → v ≡ node_spelled h
unfolding any_node_head
node_head_is v h e =
    let P : Type 0 = v ≡ node_spelled h in
    let last : Option NodeHead = or_else (option_map head.Super (super_head v)) (branch_head v) in
    or_is (option_map head.Loop (loop_head v)) (or_else (option_map head.Simple (simple_head v)) last) h P (loop_is v h)
    (λ q. or_is (option_map head.Simple (simple_head v)) last h P (simple_is v h)
    (λ q'. or_is (option_map head.Super (super_head v)) (branch_head v) h P (super_is v h) (branch_is v h) q') q) e

-- each word of a statement names it, and is not `note`
pub node_named : (h : NodeHead) → any_node_head (node_spelled h) ≡ Some h
unfolding any_node_head branch_head loop_head simple_head super_head
node_named head.Block = refl
node_named head.Let = refl
node_named head.If = refl
node_named (head.Loop repeated.While) = refl
node_named (head.Loop repeated.For) = refl
node_named (head.Loop repeated.Each) = refl
node_named (head.Simple simple.Do) = refl
node_named (head.Simple simple.Return) = refl
node_named (head.Simple simple.Throw) = refl
node_named (head.Simple simple.Break) = refl
node_named (head.Simple simple.Continue) = refl
node_named (head.Simple simple.Empty) = refl
node_named (head.Super parent.Constructor) = refl
node_named (head.Super parent.Default) = refl
node_named (head.Super parent.Outside) = refl

pub node_plain : (h : NodeHead) → is_note (node_spelled h) ≡ false
node_plain head.Block = refl
node_plain head.Let = refl
node_plain head.If = refl
node_plain (head.Loop repeated.While) = refl
node_plain (head.Loop repeated.For) = refl
node_plain (head.Loop repeated.Each) = refl
node_plain (head.Simple simple.Do) = refl
node_plain (head.Simple simple.Return) = refl
node_plain (head.Simple simple.Throw) = refl
node_plain (head.Simple simple.Break) = refl
node_plain (head.Simple simple.Continue) = refl
node_plain (head.Simple simple.Empty) = refl
node_plain (head.Super parent.Constructor) = refl
node_plain (head.Super parent.Default) = refl
node_plain (head.Super parent.Outside) = refl

abbrev break : NodeHead
break = head.Simple simple.Break

pub noted_append : (notes ts us : List Word) → noted notes ts ++ us ≡ noted notes (ts ++ us)
noted_append [] ts us = refl
noted_append (c ∷ notes) ts us = ap (λ r. codes "note" ∷ c ∷ r) (noted_append notes ts us)

module _ (first : Bool) (d : ℕ) where
  -- after other comments
  abbrev pub IsOpening : List Word → Form Opening
  IsOpening all o ts = (notes : List Word) × (o.notes ≡ all ++ notes) × (are_comments notes ≡ true) ×
      (ts ≡ noted notes (node_spelled o.head ∷ [])) × (node_fits first d o.head ≡ true)

  plain_word : (all : List Word) (w : Word) (ts : List Word) → is_note w ≡ false
      → opening first d all (w ∷ ts) ≡ headed all w ts (node_head_of first d w)
  unfolding opening
  plain_word all w [] e = rw e refl
  plain_word all w (c ∷ ts) e = rw e refl

  note_alone : (all : List Word) (w : Word) → is_note w ≡ true → opening first d all (w ∷ []) ≡ Err []
  unfolding opening
  note_alone all w e = rw e refl

  note_good : (all : List Word) (w c : Word) (ts : List Word) → is_note w ≡ true → has_form form.Comment c ≡ true
      → opening first d all (w ∷ c ∷ ts) ≡ opening first d (all ++ c ∷ []) ts
  unfolding opening
  note_good all w c ts e k = rw (e, k) refl

  note_bad : (all : List Word) (w c : Word) (ts : List Word) → is_note w ≡ true → has_form form.Comment c ≡ false
      → opening first d all (w ∷ c ∷ ts) ≡ Err (c ∷ ts)
  unfolding opening
  note_bad all w c ts e k = rw (e, k) refl

  no_words : (all : List Word) → opening first d all [] ≡ Err []
  unfolding opening
  no_words all = refl

  note_word : (w : Word) → is_note w ≡ true → w ≡ codes "note"
  note_word w e = (bytes_eq-Decides w (codes "note")).0 e

  -- some statement follows
  some_head : (all : List Word) → IsOpening all (opened all break) (codes "break" ∷ [])
  some_head all = ([], sym (append-nil all), refl, refl, refl)

  some_note : (all : List Word) (w : Word) → is_note w ≡ true
      → IsOpening all (opened (all ++ codes "//" ∷ []) break) (w ∷ codes "//" ∷ codes "break" ∷ [])
  some_note all w e = (codes "//" ∷ [], refl, rw a_comment refl, ap (λ v. v ∷ codes "//" ∷ codes "break" ∷ []) (note_word w e), refl)

  more_notes : (all : List Word) (w c : Word) (o : Opening) (us : List Word) → is_note w ≡ true → has_form form.Comment c ≡ true
      → IsOpening (all ++ c ∷ []) o us → IsOpening all o (w ∷ c ∷ us)
  more_notes all w c o us e k h = (
    c ∷ h.0,
    h.1 ∙ append_assoc all (c ∷ []) h.0,
    rw k h.2,
    ap (λ v. v ∷ c ∷ us) (note_word w e) ∙ ap (λ r. codes "note" ∷ c ∷ r) h.3,
    h.4,
  )

  stop_empty : (all rest : List Word) → SameHead [] rest → opening first d all rest ≡ Err rest
  stop_empty all [] s = no_words all
  stop_empty all (u ∷ us) s = absurd s

  stop_alone : (all : List Word) (w : Word) → is_note w ≡ true → (rest : List Word) → SameHead [] rest
      → opening first d all (w ∷ rest) ≡ Err rest
  stop_alone all w e [] s = note_alone all w e
  stop_alone all w e (u ∷ us) s = absurd s

  stop_head : (all : List Word) (w : Word) (ts : List Word) → is_note w ≡ false → node_head_of first d w ≡ None → (rest : List Word)
      → SameHead (w ∷ ts) rest → opening first d all rest ≡ Err rest
  stop_head all w ts e q [] s = absurd s
  stop_head all w ts e q (u ∷ us) s =
      plain_word all u us (ap is_note (sym s) ∙ e) ∙ ap (headed all u us) (ap (node_head_of first d) (sym s) ∙ q)

  stop_comment : (all : List Word) (w c : Word) (ts : List Word) → is_note w ≡ true → has_form form.Comment c ≡ false → (rest : List Word)
      → SameHead (c ∷ ts) rest → opening first d all (w ∷ rest) ≡ Err rest
  stop_comment all w c ts e k [] s = absurd s
  stop_comment all w c ts e k (u ∷ us) s = note_bad all w u us e (ap (has_form form.Comment) (sym s) ∙ k)

  by_head : (all : List Word) (w : Word) (ts : List Word) → is_note w ≡ false → (o : Option NodeHead) → node_head_of first d w ≡ o
      → Meets (IsOpening all) (opening first d all) (w ∷ ts) (headed all w ts o)
  by_head all w ts e (Some h) q =
      let both = kept_is (node_fits first d) (any_node_head w) h q in (
        w ∷ [],
        refl,
        ([], sym (append-nil all), refl, ap (λ v. v ∷ []) (node_head_is w h both.0), both.1),
        λ rest. plain_word all w rest e
            ∙ ap (headed all w rest) q,
      )
  by_head all w ts e None q = ([], refl, codes "break" ∷ [], opened all break, some_head all, stop_head all w ts e q)

  lifted : (all : List Word) (w c : Word) (ts : List Word) → is_note w ≡ true → has_form form.Comment c ≡ true → (o : Outcome Opening)
      → Meets (IsOpening (all ++ c ∷ [])) (opening first d (all ++ c ∷ [])) ts o
      → Meets (IsOpening all) (opening first d all) (w ∷ c ∷ ts) o
  lifted all w c ts e k (Ok x) h =
      (w ∷ c ∷ h.0, ap (λ r. w ∷ c ∷ r) h.1, more_notes all w c x.0 h.0 e k h.2, λ rest. note_good all w c (h.0 ++ rest) e k ∙ h.3 rest)
  lifted all w c ts e k (Err bad) h = (
    w ∷ c ∷ h.0,
    ap (λ r. w ∷ c ∷ r) h.1,
    h.2,
    h.3,
    more_notes all w c h.3 (h.0 ++ h.2) e k h.4,
    λ rest s. note_good all w c
        (h.0 ++ rest) e k ∙ h.5 rest s,
  )

  by_comment : (all : List Word) (w c : Word) (ts : List Word) → is_note w ≡ true
      → ((all' : List Word) → Meets (IsOpening all') (opening first d all') ts (opening first d all' ts)) → (b : Bool)
      → has_form form.Comment c ≡ b
      → Meets (IsOpening all) (opening first d all) (w ∷ c ∷ ts) (if b then opening first d (all ++ c ∷ []) ts else Err (c ∷ ts))
  by_comment all w c ts e rec true k = lifted all w c ts e k (opening first d (all ++ c ∷ []) ts) (rec (all ++ c ∷ []))
  by_comment all w c ts e rec false k =
      (w ∷ [], refl, codes "//" ∷ codes "break" ∷ [], opened (all ++ codes "//" ∷ []) break, some_note all w e, stop_comment all w c ts e k)

  by_two : (all : List Word) (w c : Word) (ts : List Word)
      → ((all' : List Word) → Meets (IsOpening all') (opening first d all') ts (opening first d all' ts)) → (b : Bool) → is_note w ≡ b
      → Meets (IsOpening all) (opening first d all) (w ∷ c ∷ ts)
      (if b then (if has_form form.Comment c then opening first d (all ++ c ∷ []) ts else Err (c ∷ ts)) else headed all w (c ∷ ts)
      (node_head_of first d w))
  by_two all w c ts rec true e = by_comment all w c ts e rec (has_form form.Comment c) refl
  by_two all w c ts rec false e = by_head all w (c ∷ ts) e (node_head_of first d w) refl

  by_one : (all : List Word) (w : Word) (b : Bool) → is_note w ≡ b
      → Meets (IsOpening all) (opening first d all) (w ∷ []) (if b then Err [] else headed all w [] (node_head_of first d w))
  by_one all w true e =
      (w ∷ [], refl, codes "//" ∷ codes "break" ∷ [], opened (all ++ codes "//" ∷ []) break, some_note all w e, stop_alone all w e)
  by_one all w false e = by_head all w [] e (node_head_of first d w) refl

  opening_meets : (ts all : List Word) → Meets (IsOpening all) (opening first d all) ts (opening first d all ts)
  unfolding opening
  opening_meets [] all = ([], refl, codes "break" ∷ [], opened all break, some_head all, stop_empty all)
  opening_meets (w ∷ []) all = by_one all w (is_note w) refl
  opening_meets (w ∷ c ∷ ts) all = by_two all w c ts (λ all'. opening_meets ts all') (is_note w) refl

  pub sound_opening : (all : List Word) → Reads (IsOpening all) (opening first d all)
  sound_opening all = record { at = λ ts. opening_meets ts all }

  pub back_opening : (notes all : List Word) (h : NodeHead) (rest : List Word) → are_comments notes ≡ true → node_fits first d h ≡ true
      → opening first d all (noted notes (node_spelled h ∷ rest)) ≡ Ok (opened (all ++ notes) h, rest)
  back_opening [] all h rest c f = plain_word all (node_spelled h) rest (node_plain h) ∙ rw (node_named h, f, append-nil) refl
  back_opening (n ∷ notes) all h rest c f =
      note_good all (codes "note") n (noted notes (node_spelled h ∷ rest)) refl (and_left (has_form form.Comment n) (are_comments notes) c)
      ∙ back_opening notes (all ++ n ∷ []) h rest (and_right (has_form form.Comment n) (are_comments notes) c) f ∙ rw
      (append_assoc all (n ∷ []) notes) refl
