-- What is read of a type is in the form, and what is refused could have gone on up to the bad word.
use Rattle.std.proofs.Common.{◌≡◌, ℕ, zero, suc, Bool, true, false, [], ◌∷◌, Some, refl, codes, ◌&&◌}
use Rattle.std.proofs.lemmas.List.{append-nil}
use Rattle.mol_values_types.specs.declared.itype.IType.{IType}
use Rattle.mol_values_types.specs.declared.itype.IType.TheVariants as types
use Rattle.mol_log_words.specs.Words.{Word, has_form}
use Rattle.mol_log_words.specs.Types.{most_dimensions}
use Rattle.mol_log_words.specs.Reader.{Parser, refuse}
use Rattle.mol_log_words.specs.TypeHeads.{type_spelled, type_heads, any_type_head, allows_type, has_room, type_fits}
use Rattle.mol_log_words.specs.TypeReader.{type_by, type_name}
use Rattle.mol_log_words.specs.Types.{IsType, boolean, byte, short, char, int, long, void, class, imported, written, array}
use Rattle.mol_log_words.specs.declared.type_role.TypeRole.{TypeRole}
use Rattle.mol_log_words.specs.declared.type_role.TypeRole.TheVariants as role
use Rattle.mol_log_words.specs.declared.text_form.TextForm.TheVariants.{Dotted, Rest}
use Rattle.mol_log_words.specs.declared.type_head.TypeHead.{TypeHead}
use Rattle.mol_log_words.specs.declared.type_head.TypeHead.TheVariants as head
use Rattle.mol_log_words.proofs.Numerals.{and_left}
use Rattle.mol_log_words.proofs.Prefix.{Reads, reads_map, reads_bind, reads_pure}
use Rattle.mol_log_words.proofs.Single.{reads_passing, reads_id, reads_head, named_is}
use Rattle.mol_log_words.proofs.Texts.{a_dotted}

pub type_head_is : (v : Word) (h : TypeHead) → any_type_head v ≡ Some h → v ≡ type_spelled h
unfolding any_type_head
type_head_is v h e = named_is type_spelled type_heads v h e

allowed : (r : TypeRole) (deeper : Bool) (h : TypeHead) → type_fits r deeper h ≡ true → allows_type r h ≡ true
allowed r deeper h f = and_left (allows_type r h) (has_room deeper h) f

room : (r : TypeRole) (deeper : Bool) → type_fits r deeper head.Array ≡ true → deeper ≡ true
room r deeper f = by_left (allows_type r head.Array) deeper f where
  by_left : (a b : Bool) → (a && b) ≡ true → b ≡ true
  by_left true b h = h
  by_left false b h = absurd cc

sound_type_by : (r : TypeRole) (k : ℕ) (deeper : Bool) (item : Parser IType)
    → (deeper ≡ true → allows_type r head.Array ≡ true → Reads (λ t ts. IsType r k (types.Array t) (codes "array" ∷ ts)) item)
    → (h : TypeHead) → type_fits r deeper h ≡ true → Reads (λ y vs. IsType r k y (type_spelled h ∷ vs)) (type_by item h)
sound_type_by r k deeper item arrays head.Boolean f = reads_pure types.Boolean (boolean (allowed r deeper head.Boolean f))
sound_type_by r k deeper item arrays head.Byte f = reads_pure types.Byte (byte (allowed r deeper head.Byte f))
sound_type_by r k deeper item arrays head.Short f = reads_pure types.Short (short (allowed r deeper head.Short f))
sound_type_by r k deeper item arrays head.Char f = reads_pure types.Char (char (allowed r deeper head.Char f))
sound_type_by r k deeper item arrays head.Int f = reads_pure types.Int (int (allowed r deeper head.Int f))
sound_type_by r k deeper item arrays head.Long f = reads_pure types.Long (long (allowed r deeper head.Long f))
sound_type_by r k deeper item arrays head.Void f = reads_pure types.Void (void (allowed r deeper head.Void f))
sound_type_by r k deeper item arrays head.Class f =
    reads_bind reads_id (λ id us q. reads_pure (types.Class id) (rw q.1 (class (allowed r deeper head.Class f) q.2)))
sound_type_by r k deeper item arrays head.Imported f = reads_bind (reads_passing (has_form Dotted) (codes "a") a_dotted) (λ full us q.
    reads_bind (reads_passing (has_form Rest) [] refl) (λ rest vs p.
    reads_pure (types.Imported full rest) (rw (q.0, p.0) (imported (allowed r deeper head.Imported f) q.1 p.1))))
sound_type_by r k deeper item arrays head.Written f = reads_bind (reads_passing (has_form Dotted) (codes "a") a_dotted) (λ name us q.
    reads_pure (types.Written name) (rw q.0 (written (allowed r deeper head.Written f) q.1)))
sound_type_by r k deeper item arrays head.Array f =
    reads_bind (arrays (room r deeper f) (allowed r deeper head.Array f)) (λ t us x. reads_pure (types.Array t) (rw append-nil x))

int_head : any_type_head (codes "int") ≡ Some head.Int
unfolding any_type_head
int_head = refl

sound_value : (k : ℕ) → Reads (IsType role.Value k) (type_name role.Value k)
unfolding type_name
sound_value zero = reads_head type_spelled any_type_head type_head_is (type_fits role.Value false) head.Int int_head refl
    (sound_type_by role.Value zero false refuse (λ e a. absurd cc))
sound_value (suc k) = reads_head type_spelled any_type_head type_head_is (type_fits role.Value true) head.Int int_head refl
    (sound_type_by role.Value (suc k) true (type_name role.Value k) (λ e a. reads_map (sound_value k) (λ t ts x. array a x)))

-- some type that may stand at a place of the role
example : TypeRole → TypeHead
example role.Value = head.Int
example role.Result = head.Int
example role.Super = head.Written
example role.Outside = head.Written
example role.Item = head.Int
example role.Array = head.Array

example_head : (r : TypeRole) → any_type_head (type_spelled (example r)) ≡ Some (example r)
unfolding any_type_head example
example_head role.Value = refl
example_head role.Result = refl
example_head role.Super = refl
example_head role.Outside = refl
example_head role.Item = refl
example_head role.Array = refl

example_fits : (r : TypeRole) → type_fits r true (example r) ≡ true
unfolding example
example_fits role.Value = refl
example_fits role.Result = refl
example_fits role.Super = refl
example_fits role.Outside = refl
example_fits role.Item = refl
example_fits role.Array = refl

pub sound_type : (r : TypeRole) (k : ℕ) → Reads (IsType r (suc k)) (type_name r (suc k))
unfolding type_name
sound_type r k = reads_head type_spelled any_type_head type_head_is (type_fits r true) (example r) (example_head r) (example_fits r)
    (sound_type_by r (suc k) true (type_name role.Value k) (λ e a. reads_map (sound_value k) (λ t ts x. array a x)))

pub sound_most : (r : TypeRole) → Reads (IsType r most_dimensions) (type_name r most_dimensions)
sound_most r = sound_type r 254
