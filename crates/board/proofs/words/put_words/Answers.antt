use Rattle.std.proofs.Common.{◌≡◌, ℕ, ◌+◌, ◌<◌, ◌≤◌, List, ◌∷◌, refl, length, get_or, drop, drop-cons, add-one, sym, ◌∙◌}
use Rattle.std.proofs.lemmas.List.{drop_all}
use Rattle.board.specs.Words.{put_word, put_words}
use Rattle.board.proofs.words.put_words.Goals as goal

one_more : (m : List ℕ) (p k : ℕ) (ws : List ℕ) → k < length ws → put_words (put_word m p k (get_or ws k 0)) p (k + 1) (drop (k + 1) ws) ≡ put_words m p k (drop k ws)
unfolding put_words
one_more m p k ws h =
    let e : drop k ws ≡ get_or ws k 0 ∷ drop (k + 1) ws = rw (add-one k) (drop-cons ws k 0 h) in
    rw e refl

no_more : (m : List ℕ) (p k : ℕ) (ws : List ℕ) → length ws ≤ k → put_words m p k (drop k ws) ≡ m
unfolding put_words
no_more m p k ws h = rw drop_all

pub loop-number-preserved : goal.loop-number-preserved
loop-number-preserved c = rw c.put_word.ensures (one_more _ _ _ _ c.loop-number-test.true ∙ c.loop-number.invariant)

pub returns : goal.returns
returns c = sym (no_more _ _ _ _ c.loop-number-test.false) ∙ c.loop-number.invariant
