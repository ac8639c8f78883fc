-- Files one after another.
use Rattle.std.proofs.Common.{◌≡◌, ◌∙◌, ◌<◌, ◌+◌, ℕ, List, [], ◌∷◌, ◌++◌, length, take, map, get_or, append_assoc, append-nil, sym, ap}
use Rattle.std.proofs.lemmas.List.{take_more}
use Rattle.mol_base.specs.Files.{file_pair, file_pairs}
use Rattle.mol_base.specs.declared.file.File.{File}
use Rattle.mol_spell_files.specs.Bundle.{bundle, bundled}

bundle-push : (files : List File) (file : File) → bundle (file_pairs (files ++ file ∷ [])) ≡ bundle (file_pairs files) ++ bundled (file_pair file)
bundle-push [] file = append-nil (bundled (file_pair file))
bundle-push (one ∷ files) file =
    ap (λ rest. bundled (file_pair one) ++ rest) (bundle-push files file)
    ∙ sym (append_assoc (bundled (file_pair one)) (bundle (file_pairs files)) (bundled (file_pair file)))

-- the bundle of one file more
pub bundle-more : (files : List File) (i : ℕ) (d : File) → i < length files
    → bundle (file_pairs (take (i + 1) files)) ≡ bundle (file_pairs (take i files)) ++ bundled (file_pair (get_or files i d))
bundle-more files i d within =
    ap (λ some. bundle (file_pairs some)) (take_more files i d within) ∙ bundle-push (take i files) (get_or files i d)
