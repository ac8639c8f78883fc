-- What is in the form of a type is read.
use Rattle.std.proofs.Common.{◌≡◌, ℕ, zero, suc, List, ◌++◌, Ok, refl}
use Rattle.mol_values_types.specs.declared.itype.IType.{IType}
use Rattle.mol_log_words.specs.Words.{Word}
use Rattle.mol_log_words.specs.Types.{most_dimensions}
use Rattle.mol_log_words.specs.Reader.{take}
use Rattle.mol_log_words.specs.TypeHeads.{any_type_head}
use Rattle.mol_log_words.specs.TypeReader.{type_name}
use Rattle.mol_log_words.specs.Types.{IsType, boolean, byte, short, char, int, long, void, class, imported, written, array}
use Rattle.mol_log_words.specs.declared.type_role.TypeRole.{TypeRole}
use Rattle.mol_log_words.proofs.FirstBad.{Laws}
use Rattle.mol_log_words.proofs.SoundTypes.{sound_most}

pub back_type : {r : TypeRole} {k : ℕ} {t : IType} {ts : List Word} → IsType r k t ts → (rest : List Word)
    → type_name r k (ts ++ rest) ≡ Ok (t, rest)
unfolding type_name take any_type_head
back_type {k = zero} (boolean a) rest = rw a refl
back_type {k = suc k} (boolean a) rest = rw a refl
back_type {k = zero} (byte a) rest = rw a refl
back_type {k = suc k} (byte a) rest = rw a refl
back_type {k = zero} (short a) rest = rw a refl
back_type {k = suc k} (short a) rest = rw a refl
back_type {k = zero} (char a) rest = rw a refl
back_type {k = suc k} (char a) rest = rw a refl
back_type {k = zero} (int a) rest = rw a refl
back_type {k = suc k} (int a) rest = rw a refl
back_type {k = zero} (long a) rest = rw a refl
back_type {k = suc k} (long a) rest = rw a refl
back_type {k = zero} (void a) rest = rw a refl
back_type {k = suc k} (void a) rest = rw a refl
back_type {k = zero} (class a i) rest = rw (a, i) refl
back_type {k = suc k} (class a i) rest = rw (a, i) refl
back_type {k = zero} (imported a p q) rest = rw (a, p, q) refl
back_type {k = suc k} (imported a p q) rest = rw (a, p, q) refl
back_type {k = zero} (written a p) rest = rw (a, p) refl
back_type {k = suc k} (written a p) rest = rw (a, p) refl
back_type (array a x) rest = rw (a, back_type x rest) refl

pub laws_type : (r : TypeRole) → Laws (IsType r most_dimensions) (type_name r most_dimensions)
laws_type r = record { sound = sound_most r; back = λ t ts rest h. back_type h rest }
