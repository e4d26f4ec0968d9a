-- Cut over the world in the code's own parts. Sizes and used parts have 64 bits, and no pool is larger. Assumes nothing: these are definitions.
use Rattle.std.specs.Prelude.{ℕ, ◌^◌, cond, ◌&&◌, Some, None, Option, nat_le, nat_lt}
use Rattle.rights.specs.declared.calls.NewObject.{NewObject}
use Rattle.model.specs.Plain.{Thing, pool, Whole, on_pool, on_some, object, with_object, free, with_slot, Ended, refuse, done}
use Rattle.model.specs.Calls.{writable, right, used_after, new_thing, grown, born, newborn}

-- a number, if it has 64 bits
abbrev pub if_64_bits : ℕ → Option ℕ
if_64_bits n = cond (nat_lt n (2 ^ 64)) (Some n) None

-- how much of a pool is used once an object is cut, if it has a right size and fits
abbrev pub room : NewObject → ℕ → ℕ → Option ℕ
room k n u = cond (right k && nat_le (used_after k u) n) (Some (used_after k u)) None

-- room in an object, if it is a pool, and another used part
abbrev pub room_in : NewObject → Thing → Option ℕ
room_in k x = on_pool x None (λ f n u. room k n u)

abbrev pub with_used : ℕ → Thing → Thing
with_used v x = on_pool x x (λ f n u. pool f n v)

-- the world once an object is cut
abbrev pub cut_done : Whole → ℕ → ℕ → ℕ → NewObject → ℕ → ℕ → Whole
cut_done w p o m k d after =
    with_slot (born (grown (with_object w o (with_used after (object w o))) (new_thing o k)) (Some (newborn w m))) p d (Some (newborn w m))

abbrev pub cut_by : Whole → ℕ → ℕ → ℕ → NewObject → ℕ → Option ℕ → Ended
cut_by w p o m k d after = on_some after (refuse w) (λ after. done (cut_done w p o m k d after))

abbrev pub cut_at : Whole → ℕ → ℕ → ℕ → NewObject → ℕ → Ended
cut_at w p o m k d = cut_by w p o m k d (room_in k (object w o))

abbrev pub cut : Whole → ℕ → ℕ → NewObject → ℕ → Ended
cut w p s k d =
    on_some (writable w p s) (refuse w) (λ c. cond (free w p d) (cut_at w p c.object c.birth k d) (refuse w))
