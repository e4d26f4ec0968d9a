-- An image that is taken means an allowed world.
use Rattle.std.proofs.Common.{◌≡◌, ℕ, zero, suc, ◌+◌, ◌*◌, ◌/◌, ◌<◌, ◌≤◌, min, Bool, true, leb, ◌≢◌, List, [], ◌∷◌, length, get_or, Ok, sym, refl, ap, ◌∙◌, subst, arith}
use Rattle.std.proofs.lemmas.List.{get_or_past}
use Rattle.std.proofs.lemmas.Bool.{leb-true}
use Rattle.std.proofs.lemmas.Bool.Decides.{nat_tests}
use Rattle.rights.specs.declared.kinds.Kind.{Kind}
use Rattle.rights.specs.declared.kinds.Kind.TheVariants.{Table, Page, Thread}
use Rattle.rights.specs.Vocabulary.{kind_number}
use Rattle.rights.specs.World.{World, Sizes, Object, Slot, Rights, State, empty, cap, gone, pool, table, port, page, thread, line, waits, slots_of, object}
use Rattle.rights.specs.Promise.{Parted, New, new_pool, new_table, new_port, new_page, new_thread, new_line, Fits, threads, lines}
use Rattle.rv32.specs.declared.registers.Cpu.{Cpu}
use Rattle.rv32.specs.Registers.{fresh}
use Rattle.rv32.specs.Execute.{act}
use Rattle.image.specs.declared.census.Census.{Census}
use Rattle.image.specs.declared.census.Kinds.{Kinds}
use Rattle.image.specs.Fields.{one, two}
use Rattle.image.specs.Format.{head_at, names, magic, count, headers, body, section}
use Rattle.image.specs.Layout.{frames_for}
use Rattle.std.specs.List.{zip}
use Rattle.image.specs.Meaning.{Places, objects_from, objects_of, births_all, world_of, kind_of, frames}
use Rattle.image.specs.Prefix.{content_lengths}
use Rattle.image.specs.Verdict.{verdict}
use Rattle.image.specs.Allowed.{MeansAllowed}
use Rattle.image.proofs.Decided.{count_back}
use Rattle.image.proofs.Sized.{then_back, judged_back, body_adds, length_by_headers}
use Rattle.image.proofs.Stands.{Alls, alls_at}
use Rattle.image.proofs.Slots.{GoodSlot}
use Rattle.image.proofs.Spaces.{GoodMap}
use Rattle.image.proofs.Births.{Orders, range, once, all_up}
use Rattle.image.proofs.Objects.{Good, Placed, fills}
use Rattle.image.proofs.Sound.{ObjectsRead, objects_read}

names_back : (bs : List ℕ) (n u : ℕ) (K : Kind) → names bs n (suc u) K ≡ true → (u < n) × (one bs (head_at u) ≡ kind_number K)
names_back bs n u K e = grind (arith, nat_tests)

maps_at : (bs : List ℕ) (n : ℕ) (ps : List ℕ) (rs : List Bool) (i k u : ℕ) → length ps ≡ length rs → Alls (GoodMap bs n) i (zip ps rs) → get_or ps k 0 ≡ suc u → names bs n (suc u) Page ≡ true
maps_at bs n [] rs i k u e g h = absurd (omega (arith, h))
maps_at bs n (p ∷ ps) [] i k u e g h = absurd (omega (arith, e))
maps_at bs n (p ∷ ps) (r ∷ rs) i zero u e g h = subst (λ v. names bs n v Page ≡ true) h g.0.1
maps_at bs n (p ∷ ps) (r ∷ rs) i (suc k) u e g h = maps_at bs n ps rs (suc i) k u (omega (arith, e)) g.1 h

-- the kind of an object tells what it is
a_table : (x : Object Cpu) → kind_of x ≡ 1 → (g : ℕ) × (ss : List Slot) × (x ≡ table g ss)
a_table x e = grind arith

a_page : (x : Object Cpu) → kind_of x ≡ 3 → (g : ℕ) × (xs : List ℕ) × (x ≡ page g xs)
a_page x e = grind arith

-- objects that an image can carry are new
module _ (z : Sizes) (zb : z.bytes ≡ 4096) (zp : z.pages ≡ 64) (bs : List ℕ) (n : ℕ) where
  abbrev Fresh : Object Cpu → Type 0
  Fresh x = New Cpu fresh act z x

  new_from : (x : Object Cpu) → Good bs n x → Fresh x
  new_from gone g = absurd g
  new_from (pool f k u) g =
      let e : (k / 4096) * z.bytes ≡ k = rw zb g.2 in
      rw (g.0, g.1) (subst (λ m. Fresh (pool 0 m 0)) e (new_pool g.3 g.4))
  new_from (table f ss) g = rw g.0 (new_table g.1 g.2)
  new_from (port f ws) g = rw (g.0, g.1) new_port
  new_from (page f ys) g = rw g.0 (new_page (g.1 ∙ sym zb) g.2)
  new_from (thread f s c t ps rs) g = rw (g.0, ← g.2) (new_thread (g.6 ∙ sym zp) (g.7 ∙ sym zp) g.3)
  new_from (line ys zs) g = rw (g.0, g.1) new_line

slot_fact : (bs : List ℕ) (n : ℕ) (x : Object Cpu) → Good bs n x → (i u b j m : ℕ) (r : Rights) → get_or (slots_of Cpu fresh act x) i empty ≡ cap u r b j m
    → (u < n) × (b < 4294967296) × (m ≡ 0)
unfolding slots_of
slot_fact bs n x g i u b j m r e = grind (arith, alls_at (GoodSlot n) empty, get_or_past)

-- a world of objects that an image can carry
module _ (bs : List ℕ) (n : ℕ) (w : World Cpu) (long : length w.objects ≡ n) (all_Placed : Alls (Placed bs n) 0 w.objects) (orders : Orders 0 w.objects)
    (births_are : w.births ≡ births_all w.objects) where
  abbrev its : ℕ → Object Cpu
  its o = object Cpu fresh act w o

  placed_at : (o : ℕ) → o < n → Placed bs n o (its o)
  unfolding object
  placed_at o l =
      let e : 0 + o ≡ o = omega arith in
      subst (λ k. Placed bs n k (get_or w.objects o gone)) e (alls_at (Placed bs n) gone w.objects 0 o all_Placed (omega (arith, l, long)))

  past_end : (o : ℕ) → n ≤ o → its o ≡ gone
  unfolding object
  past_end o l = get_or_past w.objects o gone (omega (arith, l, long))

  lives : (o : ℕ) → o < n → its o ≢ gone
  lives o l e = subst (λ x. Good bs n x) e (placed_at o l).1

  -- an object that is there is good
  there : (o : ℕ) (x : Object Cpu) → its o ≡ x → x ≢ gone → Good bs n x
  there o x e h = grind (arith, placed_at o, past_end o)

  slot_there : (o i u b j m : ℕ) (r : Rights) → get_or (slots_of Cpu fresh act (its o)) i empty ≡ cap u r b j m → (u < n) × (b < 4294967296) × (m ≡ 0)
  unfolding slots_of
  slot_there o i u b j m r e = grind (arith, placed_at o, past_end o, slot_fact bs n (its o))

  thread_there : (o f t : ℕ) (s : State Cpu) (c : Cpu) (ps : List ℕ) (rs : List Bool) → its o ≡ thread f s c t ps rs → Good bs n (thread f s c t ps rs)
  thread_there o f t s c ps rs e = there o (thread f s c t ps rs) e (λ h. cc)

  table_named : (o f t : ℕ) (s : State Cpu) (c : Cpu) (ps : List ℕ) (rs : List Bool) → its o ≡ thread f s c (suc t) ps rs → (t < n) × (one bs (head_at t) ≡ 1)
  table_named o f t s c ps rs e = names_back bs n t Table (thread_there o f (suc t) s c ps rs e).5

  page_named : (o f t k u : ℕ) (s : State Cpu) (c : Cpu) (ps : List ℕ) (rs : List Bool) → its o ≡ thread f s c t ps rs → get_or ps k 0 ≡ suc u → (u < n) × (one bs (head_at u) ≡ 3)
  page_named o f t k u s c ps rs e h =
      let g = thread_there o f t s c ps rs e in names_back bs n u Page (maps_at bs n ps rs 0 k u (g.6 ∙ sym g.7) g.8 h)

  pub is_parted : w.lineage ≡ [] → Parted Cpu fresh act (λ o. true) w
  unfolding object
  is_parted no_lineage = record {
    held = λ o i u b j m r e. let s = slot_there o i u b j m r e in (refl, s.2, lives u s.0);
    tables = λ o f t s c ps rs e. (refl, lives t (table_named o f t s c ps rs e).0);
    spaces = λ o f t k u s c ps rs e h. (refl, lives u (page_named o f t k u s c ps rs e h).0);
    from = λ o u e. refl;
    once = λ o i u b j m p k v c l r q e f. once 0 w.objects orders o i u b j m p k v c l r q e f;
    born = λ o i u b j m r e. let s = range 0 w.objects orders o i u b j m r e in (omega (arith, s.0), omega (arith, s.1, births_are));
    nothing_made = no_lineage;
    calm = λ o f ws e. (there o (port f ws) e (λ h. cc)).1;
    awake = λ o f t u c ps rs k e. let h = (thread_there o f t (waits u k) c ps rs e).1 in cc;
  }

  pub all_new : (z : Sizes) → z.bytes ≡ 4096 → z.pages ≡ 64 → (o : ℕ) → o < length w.objects → New Cpu fresh act z (its o)
  all_new z zb zp o l = new_from z zb zp bs n (its o) (placed_at o (omega (arith, l, long))).1

  pub does_fit : threads Cpu fresh act w.objects ≤ 64 → lines Cpu fresh act w.objects ≤ 32 → frames w.objects ≤ 4096 → Fits Cpu fresh act frames w
  does_fit a b c = record {
    badges = λ o i u b j m r e. (slot_there o i u b j m r e).1;
    in_order = rw births_are (all_up 0 w.objects orders);
    few = (a, b, c);
    its_table = λ o f t s c ps rs e. let m = table_named o f t s c ps rs e in a_table (its t) (sym (placed_at t m.0).0.0 ∙ m.1);
    its_pages = λ o f t k u s c ps rs e h. let m = page_named o f t k u s c ps rs e h in a_page (its u) (sym (placed_at u m.0).0.0 ∙ m.1);
  }

magic_four : (bs : List ℕ) (a : ℕ) → magic bs ≡ Ok a → a ≡ 4
magic_four bs a e = grind (arith, nat_tests)

-- what was read of an image that is taken
pub record ReadThrough (ks : Kinds) (lent : ℕ) (bs : List ℕ) (n p h end : ℕ) (c : Census) : Type 0 where
  pub magic_is : magic bs ≡ Ok 4
  pub number_is : two bs 4 ≡ n
  pub few : n ≤ 1000
  pub headers_are : headers ks bs n ≡ Ok c
  pub tables_are : section bs n Table (head_at n) ≡ Ok p
  pub pages_are : section bs n Page p ≡ Ok h
  pub threads_are : section bs n Thread h ≡ Ok end
  pub ends : length bs ≡ end
  pub fits : frames_for bs n ≤ min lent 4096

pub read_through : (ks : Kinds) (lent : ℕ) (bs : List ℕ) (c : Census) → verdict ks lent bs ≡ Ok c → (n : ℕ) × (p : ℕ) × (h : ℕ) × (end : ℕ) × ReadThrough ks lent bs n p h end c
read_through ks lent bs c v =
    let a = then_back (magic bs) _ c v in
    let b = then_back (count bs) _ c a.2 in
    let n : ℕ = b.0 in
    let k = count_back bs n b.1 in
    let d = then_back (headers ks bs n) _ c b.2 in
    let e = then_back (body bs n) _ c d.2 in
    let f = judged_back (leb (length bs) e.0) _ _ c e.2 in
    let g = judged_back (leb (frames_for bs n) (min lent 4096)) _ (Ok d.0) c f.1 in
    let t = then_back (section bs n Table (head_at n)) _ e.0 e.1 in
    let u = then_back (section bs n Page t.0) _ e.0 t.2 in
    let m : d.0 ≡ c = cc in (
      n,
      t.0,
      u.0,
      e.0,
      record {
        magic_is = a.1 ∙ ap Ok (magic_four bs a.0 a.1);
        number_is = sym k.0;
        few = k.1;
        headers_are = d.1 ∙ ap Ok m;
        tables_are = t.1;
        pages_are = u.1;
        threads_are = u.2;
        ends = length_by_headers ks lent bs c v ∙ (ap (λ k. head_at k + content_lengths bs k 0) (sym k.0) ∙ sym (body_adds bs n e.0 e.1));
        fits = leb-true (frames_for bs n) (min lent 4096) g.0;
      },
    )

pub means_allowed : MeansAllowed
means_allowed ks lent z bs c zb zp low v =
    let rt = read_through ks lent bs c v in
    let n : ℕ = rt.0 in
    let r = rt.4 in
    let q : Places = record { slots_at = head_at n; bytes_at = rt.1; thread_at = rt.2; born = 0 } in
    let first : Census = record { objects = n; threads = 0; lines = 0 } in
    let e : objects_of bs ≡ objects_from bs n n 0 q = rw (r.number_is, r.tables_are, r.pages_are) in
    let w : World Cpu = world_of bs in
    let os : List (Object Cpu) = objects_of bs in
    let x = subst (λ (xs : List (Object Cpu)). ObjectsRead bs low n ks n 0 q first c xs) (sym e)
    (objects_read bs low n ks n 0 q first c rt.1 rt.2 rt.3 r.headers_are r.tables_are r.pages_are r.threads_are) in
    let ta = x.threads_are in
    let la = x.lines_are in
    let tf = x.few.0 (omega arith) in
    let lf = x.few.1 (omega arith) in
    let fr : frames os ≤ 4096 =
    (let b : frames_for bs (length os) ≡ frames os = ap (λ k. (k + 63) / 64) (fills bs n os 0 0 x.placed) in
    let d : frames_for bs n ≡ frames os = subst (λ k. frames_for bs k ≡ frames os) x.long b in
    omega (arith, d, r.fits)) in (
      record {
        parted = is_parted bs n w x.long x.placed x.order refl refl;
        new = all_new bs n w x.long x.placed x.order refl z zb zp;
        few = omega (arith, x.long, r.few);
        fits = does_fit bs n w x.long x.placed x.order refl (omega (arith, ta, tf)) (omega (arith, la, lf)) fr;
      },
      x.long ∙ sym x.objects_are,
      omega (arith, ta),
      omega (arith, la),
    )
