-- The rows of calls worked out.
use mathlib.Core.Path.{refl}
use Rattle.rights.specs.World.{meet, cost, step_of, up_to, slot_object, slot_rights, slot_badge, slot_birth, slot_mother, is_empty, copied, too_many, among, object, with_object, slots_of, from_of, table_of, slot, has_slot, with_slots, with_slot}
use Rattle.rights.specs.World.{made_from, offspring, emptied, cut_in, cuttings, waits_thread, without_threads, unmapped, woken, cleaned, clean_all, cleared, refilled, refuse, made, all_rights, cutting, is_pool, revoking, set_state, then_of, resumed, handed}
use Rattle.rights.specs.World.{sending, receiving, does, seen, went_on, acts, ticked, event}
use Rattle.laws.specs.CallRows.{row_a, row_b, row_c, row_d, row_e, row_f, row_g, row_h, Right, RowsAreRight}

pub rows_right : RowsAreRight
unfolding meet cost step_of up_to slot_object slot_rights slot_badge slot_birth slot_mother is_empty copied too_many among object with_object slots_of from_of table_of slot has_slot with_slots with_slot made_from offspring emptied cut_in cuttings waits_thread without_threads unmapped woken cleaned clean_all cleared refilled refuse made all_rights cutting is_pool revoking set_state then_of resumed handed sending receiving does seen went_on acts ticked event
rows_right = (a, (b, (c, (d, (e, (f, (g, (h, tt))))))))
  where
    a : Right row_a
    a = (refl, (refl, (refl, tt)))

    b : Right row_b
    b = (refl, (refl, (refl, (refl, (refl, tt)))))

    c : Right row_c
    c = (refl, (refl, (refl, tt)))

    d : Right row_d
    d = (refl, (refl, (refl, (refl, tt))))

    e : Right row_e
    e = (refl, (refl, (refl, (refl, tt))))

    f : Right row_f
    f = (refl, (refl, (refl, (refl, tt))))

    g : Right row_g
    g = (refl, (refl, (refl, (refl, tt))))

    h : Right row_h
    h = (refl, (refl, (refl, tt)))
