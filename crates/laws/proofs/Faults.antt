-- The faulty definitions break their laws, and the world's own keep them.
use mathlib.Core.Path.{refl, ap, ◌≡◌}
use mathlib.Core.Bool.{false}
use mathlib.Core.List.{List, [], ◌∷◌, get_or}
use Prim.Native.Nat.{ℕ}
use native.Mathlib.Omega.{arith}
use Rattle.rv32.specs.declared.registers.Cpu.{Cpu}
use Rattle.rights.specs.World.{meet, empty, cap, sender, gone, table, World, slot_rights, slot_birth, is_empty, copied, among, object, with_object}
use Rattle.rights.specs.World.{slots_of, table_of, slot, has_slot, with_slots, with_slot, cleared, handed, receiving}
use Rattle.laws.specs.Examples.{all, reads_only, small}
use Rattle.laws.specs.Wrong.{copied_wide, CopyTested, clean_but_one, RevokeTested, answer, last_first, receiving_last, PortTested, handed_always}
use Rattle.laws.specs.Wrong.{HandOnTested}
use Rattle.laws.proofs.Tests.{yes_no, no_yes, and_left}
use Rattle.laws.proofs.Sweeping.{swept_at}
use Rattle.laws.proofs.Caps.{swept_in}

pub copy_tested : CopyTested
unfolding copied copied_wide slot_rights meet
copy_tested = ((λ o c j m b i q r. (and_left q.reads r.reads, and_left q.writes r.writes, and_left q.hands r.hands)), λ h. no_yes ((h 0 0 1 0 0 2 reads_only all).1 refl))

pub revoke_tested : RevokeTested
unfolding cleared object clean_but_one slots_of is_empty among slot_birth
revoke_tested fresh act = (
  (λ f a ids os xs o i y e n. (swept_in Cpu fresh act (swept_at Cpu fresh act (record { objects = xs; births = 0; lineage = [] }) ids os o) i y e n).1),
  λ h. yes_no (h fresh act (1 ∷ []) [] (gone ∷ table 0 (cap 0 all 0 1 0 ∷ []) ∷ []) 1 0 (cap 0 all 0 1 0) refl refl),
)

pub port_tested : PortTested
unfolding receiving receiving_last last_first answer
port_tested fresh act = ((λ w p o d f t b s ws h g q. refl), λ h. two_badges (h (record { objects = []; births = 0; lineage = [] }) 0 0 0 0 1 5 0 [] false false (sender 2 6 [] false false 0 ∷ [])))
  where
    two_badges : ◌≡◌ {A = List ℕ} (0 ∷ 6 ∷ []) (0 ∷ 5 ∷ []) → ⊥
    two_badges e = let q : ◌≡◌ {A = ℕ} 6 5 = cc in omega arith

pub hand_on_tested : HandOnTested
unfolding handed handed_always slot object table_of slots_of has_slot with_slot with_slots with_object is_empty
hand_on_tested fresh act =
    ((λ w p s q d. refl), λ h. no_yes (ap (λ (w : World Cpu). is_empty (get_or (slots_of Cpu fresh act (object Cpu fresh act w 4)) 7 empty)) (h (small all) 5 3 6 7)))
