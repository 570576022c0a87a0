-- Derivations that stand one after another, and the words that they write.
use Rattle.std.proofs.Common.{◌≡◌, ◌∷◌, ◌++◌, refl, sym, ap, ◌∙◌, append_assoc}
use Rattle.job_syntax.specs.declared.lexer.word.Word.TheVariants.{Open, Close}
use Rattle.job_syntax.specs.Grammar.{Items, nothing, leaf_then, block_then, ◌then◌, items_words, leaf_words, kind_words}

pub then_assoc : (a b c : Items) → (a then b) then c ≡ a then (b then c)
then_assoc nothing b c = refl
then_assoc (leaf_then leaf a) b c = ap (leaf_then leaf) (then_assoc a b c)
then_assoc (block_then kind body a) b c = ap (block_then kind body) (then_assoc a b c)

pub then_nothing : (a : Items) → a then nothing ≡ a
then_nothing nothing = refl
then_nothing (leaf_then leaf a) = ap (leaf_then leaf) (then_nothing a)
then_nothing (block_then kind body a) = ap (block_then kind body) (then_nothing a)

pub words_then : (a b : Items) → items_words (a then b) ≡ items_words a ++ items_words b
words_then nothing b = refl
words_then (leaf_then leaf a) b =
    ap (λ words. leaf_words leaf ++ words) (words_then a b) ∙ sym (append_assoc (leaf_words leaf) (items_words a) (items_words b))
words_then (block_then kind body a) b =
    ap (λ words. kind_words kind ++ Open ∷ (items_words body ++ Close ∷ words)) (words_then a b) ∙ simp append_assoc refl
