-- What begins with names that were read, as a variable, field, call or item.
use Rattle.std.proofs.Common.{◌≡◌, ℕ, ◌<◌, ◌≤◌, List, [], ◌∷◌, ◌++◌, nat_le, nat_lt, if◌then◌else◌, refl, arith}
use Rattle.std.proofs.lemmas.List.{append-nil}
use Rattle.mol_base.specs.Token.{Token}
use Rattle.jav_parse_cursor.specs.declared.limits.Limits.{Limits}
use Rattle.jav_parse_expr.specs.declared.primary.Rooms.{Rooms}
use Rattle.jav_parse_cursor.specs.declared.sort.Sort.{Sort}
use Rattle.jav_parse_cursor.specs.declared.sort.Sort.TheVariants as sort
use Rattle.jav_parse_cursor.specs.declared.tall.Tall.{Tall}
use Rattle.jav_parse_cursor.specs.Nodes as made
use Rattle.jav_parse_cursor.specs.Nodes.{count_of, is_array}
use Rattle.jav_parse_expr.specs.PrimaryRules as rules
use Rattle.jav_parse_expr.specs.PrimaryRules.{Inside, arguments}
use Rattle.jav_parse_cursor.specs.Reading.{Parser, ◌>>=◌, pure, refuse}
use Rattle.jav_parse_cursor.specs.Sorts.{sort_of, same_sort}
use Rattle.jav_parse.proofs.Meets.{Spelling, Some_of, ReadsAt, Reads, reads_refuse, reads_bind, reads_made, reads_if_then, reads_peek_then, reads_any}
use Rattle.jav_parse.proofs.SoundNames.{named_is, target_part, named_call_part}
use Rattle.jav_parse.proofs.SoundPrimary.{reads_args, reads_index}
use Rattle.jav_parse.proofs.SoundTypes.{IsNames}
use Rattle.jav_parse.proofs.Tests.{lt_not, le_not}
use Rattle.jav_parse.proofs.Within.{IsBuilding, IsPart, HasRoom, ReadsInside}

some_names : (names : List Token) → IsNames names → 0 < count_of names
some_names [] k = absurd k
some_names (t ∷ rest) k = omega arith

module _ (l : Limits) (good : IsBuilding l) (top : ℕ) (rooms : Rooms) (has : HasRoom top rooms) (e : Inside) (inner : ReadsInside l rooms e) (names : List Token) (are : IsNames names) where
  named_part : count_of names ≤ rooms.target → IsPart l rooms (made.named l.builds names) names
  named_part p = target_part l rooms (count_of names) (made.named l.builds names) names (named_is l good.builds names are) p

  -- the names as a variable, a field or a call, and then f
  pub reads_named : {B : Type 0} {S : Spelling B} {P : Sort → Type 0} (f : Tall → Parser B) → Some_of S → ((y : Tall) (vs : List Token) → IsPart l rooms y (names ++ vs) → Reads (λ z ws. S z (vs ++ ws)) (f y))
      → ReadsAt S P (rules.named l top rooms e names >>= f)
  unfolding rules.named
  reads_named f some go = reads_peek_then
      (λ s. if same_sort s sort.Open then (if nat_lt rooms.invocation (count_of names) then refuse else
      (arguments l.most rooms.invocation e.argument >>= (λ args. pure (made.named_call l.builds names args)))) else
      (if nat_lt rooms.target (count_of names) then refuse else pure (made.named l.builds names))) f
      (λ s. reads_if_then (same_sort s sort.Open) _ _ f
      (λ b. reads_if_then (nat_lt rooms.invocation (count_of names)) refuse _ f
      (λ c. reads_refuse some)
      (λ c. let low = lt_not rooms.invocation (count_of names) c in let p = some_names names are in
      reads_bind {R = λ y vs. IsPart l rooms y (names ++ vs)} (reads_made (λ args. made.named_call l.builds names args) (reads_args l good top rooms has e inner (omega arith))
      (λ args vs ha. named_call_part l good.builds rooms names are low args vs ha)) go))
      (λ b. reads_if_then (nat_lt rooms.target (count_of names)) refuse _ f
      (λ c. reads_refuse some)
      (λ c. reads_any (go (made.named l.builds names) [] (rw append-nil (named_part (lt_not rooms.target (count_of names) c)))))))

  -- an index of the array that the names are, after its bracket, and then f
  pub reads_named_item : {B : Type 0} {S : Spelling B} {P : Sort → Type 0} (f : Tall → Parser B) (left : Token) → sort_of left ≡ sort.Left → Some_of S
      → ((y : Tall) (vs : List Token) → IsPart l rooms y (names ++ (left ∷ vs)) → Reads (λ z ws. S z (vs ++ ws)) (f y)) → ReadsAt S P (rules.named_item l top rooms e names >>= f)
  unfolding rules.named_item
  reads_named_item f left hl some go =
      let x = made.named l.builds names in
      let k = named_is l good.builds names are in
      reads_if_then (nat_le rooms.target (count_of names)) refuse _ f
      (λ b. reads_refuse some)
      (λ b. let p = le_not rooms.target (count_of names) b in let h = k.height in
      reads_any (reads_bind {R = λ y vs. IsPart l rooms y (names ++ (left ∷ vs))}
      (reads_index l good top rooms has e inner x names (named_part (omega arith)) (let s = k.shape in rw s refl) (omega arith) left hl) go))
