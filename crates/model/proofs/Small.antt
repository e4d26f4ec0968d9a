-- The small world is sound.
use Rattle.std.proofs.Common.{◌≡◌, ℕ, zero, suc, ◌<◌, ◌≤◌, List, length, get_or, replicate, Some, None, Option, sym, refl, ap, ◌∙◌, arith}
use Rattle.model.specs.declared.objects.Capability.{Capability}
use Rattle.model.specs.declared.objects.Mapping.{Mapping}
use Rattle.model.specs.declared.objects.Thread.{Thread}
use Rattle.model.specs.Example.{small, SmallIsSound}
use Rattle.model.specs.Plain as p
use Rattle.model.specs.Sound.{Dense}

no_full : (c : Capability) → ◌≡◌ {A = Option Capability} None (Some c) → ⊥
no_full c e = cc

slots_born : (s : ℕ) (c : Capability) → p.slot_at (p.object small 2) s ≡ Some c → c.birth ≤ 2
unfolding p.object
slots_born zero c e = let q : 1 ≡ c.birth = cc in omega (arith, q)
slots_born (suc zero) c e = let q : 2 ≡ c.birth = cc in omega (arith, q)
slots_born (suc (suc zero)) c e = absurd (no_full c e)
slots_born (suc (suc (suc zero))) c e = absurd (no_full c e)
slots_born (suc (suc (suc (suc s)))) c e = absurd (no_full c e)

all_born : (o s : ℕ) (c : Capability) → p.slot_at (p.object small o) s ≡ Some c → c.birth ≤ 2
unfolding p.object
all_born zero s c e = absurd (no_full c e)
all_born (suc zero) s c e = absurd (no_full c e)
all_born (suc (suc zero)) s c e = slots_born s c e
all_born (suc (suc (suc zero))) s c e = absurd (no_full c e)
all_born (suc (suc (suc (suc o)))) s c e = absurd (no_full c e)

no_some : (f : ℕ) → ◌≡◌ {A = Option ℕ} None (Some f) → ⊥
no_some f e = cc

uncut : (o f : ℕ) → p.from_of (p.object small o) ≡ Some f → f < o
unfolding p.object
uncut zero f e = absurd (no_some f e)
uncut (suc zero) f e = absurd (no_some f e)
uncut (suc (suc zero)) f e = absurd (no_some f e)
uncut (suc (suc (suc zero))) f e = absurd (no_some f e)
uncut (suc (suc (suc (suc o)))) f e = absurd (no_some f e)

nowhere : (x : Mapping) (n k : ℕ) → get_or (replicate n x) k x ≡ x
nowhere x zero k = refl
nowhere x (suc n) zero = refl
nowhere x (suc n) (suc k) = nowhere x n k

pages_none : (q k : ℕ) (t : Thread) → p.object small q ≡ p.thread t → p.page_at t.pages k ≡ None
unfolding p.object
pages_none zero k t e = cc
pages_none (suc zero) k t e = cc
pages_none (suc (suc zero)) k t e = cc
pages_none (suc (suc (suc zero))) k t e = let f : replicate 64 p.unmapped ≡ t.pages = cc in ap (λ ps. p.page_at ps k) (sym f) ∙ ap p.page_in (nowhere p.unmapped 64 k)
pages_none (suc (suc (suc (suc q)))) k t e = cc

no_page : (o : ℕ) (f : Option ℕ) (bs : List ℕ) → p.object small o ≡ p.page f bs → length bs ≡ 4096
unfolding p.object
no_page zero f bs e = cc
no_page (suc zero) f bs e = cc
no_page (suc (suc zero)) f bs e = cc
no_page (suc (suc (suc zero))) f bs e = cc
no_page (suc (suc (suc (suc o)))) f bs e = cc

pub small_is_sound : SmallIsSound
unfolding Dense
small_is_sound =
    record {
      dense = tt;
      counted = refl;
      born = all_born;
      after = uncut;
      full = no_page;
      paged = λ q k o t e h. absurd (no_some o (sym (pages_none q k t e) ∙ h));
    }
