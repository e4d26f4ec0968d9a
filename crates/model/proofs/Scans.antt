-- Passes that add one mark for each element, by the marks so far.
use Rattle.std.proofs.Common.{◌≡◌, ℕ, zero, suc, ◌+◌, ◌<◌, ◌≤◌, Bool, false, List, [], ◌∷◌, ◌++◌, map, length, get_or, take, drop, sym, refl, ap, ◌∙◌, subst, arith, length-append, add-one, drop-cons}
use Rattle.std.proofs.lemmas.List.{take_all, take-take, take_at, get_or_at, get_or-take, drop_all}
use Rattle.model.specs.Sweeps.{scan}

-- a scan under a map
pub scan_map : {X Y : Type 0} (f : List Bool → Y → Bool) (g : X → Y) (ms : List Bool) (xs : List X) → scan (λ ns x. f ns (g x)) ms xs ≡ scan f ms (map g xs)
unfolding scan
scan_map f g ms [] = refl
scan_map f g ms (x ∷ xs) = scan_map f g (ms ++ f ms (g x) ∷ []) xs

-- one turn of the loop that scans, and its end
pub scan_step : {X : Type 0} (f : List Bool → X → Bool) (ms new : List Bool) (xs : List X) (i : ℕ) (x : X) → i < length xs → new ≡ ms ++ f ms (get_or xs i x) ∷ [] →
    scan f new (drop (i + 1) xs) ≡ scan f ms (drop i xs)
unfolding scan
scan_step f ms new xs i x l e = rw (drop-cons xs i x, add-one) (ap (λ ns. scan f ns (drop (suc i) xs)) e)

pub scan_end : {X : Type 0} (f : List Bool → X → Bool) (ms : List Bool) (xs : List X) (i : ℕ) → length xs ≤ i → ms ≡ scan f ms (drop i xs)
unfolding scan
scan_end f ms xs i l = rw (drop_all i xs l) refl

module _ {X : Type 0} (f : List Bool → X → Bool) where
  one_longer : (ms : List Bool) (b : Bool) → length (ms ++ b ∷ []) ≡ suc (length ms)
  one_longer ms b = length-append ms (b ∷ []) ∙ (let e : length ms + 1 ≡ suc (length ms) = omega arith in e)

  pub scan_length : (ms : List Bool) (xs : List X) → length (scan f ms xs) ≡ length ms + length xs
  unfolding scan
  scan_length ms [] = omega arith
  scan_length ms (x ∷ xs) = let h = scan_length (ms ++ f ms x ∷ []) xs in let e = one_longer ms (f ms x) in omega (arith, h, e)

  -- the marks so far stay
  pub scan_front : (ms : List Bool) (xs : List X) → take (length ms) (scan f ms xs) ≡ ms
  unfolding scan
  scan_front ms [] = take_all (length ms) ms (omega arith)
  scan_front ms (x ∷ xs) =
      let new = ms ++ f ms x ∷ [] in
      let e = one_longer ms (f ms x) in
      let t = scan_front new xs in
      sym (take-take (length ms) (length new) (scan f new xs) (omega (arith, e))) ∙ ap (take (length ms)) t ∙ take_at ms (f ms x ∷ []) (length ms) refl

  -- each mark is the test of its element by the marks before it
  pub scan_at : (ms : List Bool) (xs : List X) (k : ℕ) (d : X) → k < length xs →
      get_or (scan f ms xs) (length ms + k) false ≡ f (take (length ms + k) (scan f ms xs)) (get_or xs k d)
  unfolding scan
  scan_at ms [] k d h = absurd (omega arith)
  scan_at ms (x ∷ xs) zero d h =
      let new = ms ++ f ms x ∷ [] in
      let e = one_longer ms (f ms x) in
      let t = scan_front new xs in
      let z : length ms + 0 ≡ length ms = omega arith in
      rw z (
      sym (get_or-take (length new) (scan f new xs) (length ms) false (omega (arith, e))) ∙ ap (λ ys. get_or ys (length ms) false) t ∙ get_or_at ms (f ms x) [] false (length ms) refl
      ∙ sym (ap (λ ys. f ys x) (scan_front ms (x ∷ xs))))
  scan_at ms (x ∷ xs) (suc k) d h =
      let new = ms ++ f ms x ∷ [] in
      let e = one_longer ms (f ms x) in
      let z : length new + k ≡ length ms + suc k = omega (arith, e) in
      subst (λ i. get_or (scan f new xs) i false ≡ f (take i (scan f new xs)) (get_or xs k d)) z (scan_at new xs k d (omega arith))

  -- the same of a scan from no marks on
  pub scan_long : (xs : List X) → length (scan f [] xs) ≡ length xs
  scan_long xs = scan_length [] xs ∙ (let z : 0 + length xs ≡ length xs = omega arith in z)

  pub scan_all : (xs : List X) (k : ℕ) (d : X) → k < length xs → get_or (scan f [] xs) k false ≡ f (take k (scan f [] xs)) (get_or xs k d)
  scan_all xs k d h =
      let z : 0 + k ≡ k = omega arith in
      subst (λ i. get_or (scan f [] xs) i false ≡ f (take i (scan f [] xs)) (get_or xs k d)) z (scan_at [] xs k d h)
