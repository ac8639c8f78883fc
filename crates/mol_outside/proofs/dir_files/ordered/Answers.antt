use Rattle.std.proofs.lemmas.List.Filters.{dedup_is}
use Rattle.std.proofs.lemmas.List.Kept.{IsStrictlySortedBy-dedup}
use Rattle.std.specs.Cmp.Lexicographic.{on_texts, texts_ties}
use Rattle.mol_outside.proofs.dir_files.ordered.Goals as goal

pub returns : goal.returns
returns c = rw (c.from_vec.ensures, dedup_is _ _ _ c.dedup.ensures.filtered) (IsStrictlySortedBy-dedup (on_texts (λ x. x)) (λ x y. texts_ties x y) _ c.in_ok-sort.ensures.sorted)
