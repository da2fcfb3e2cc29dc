-- What the two tables and the owner words hold after a history, and how opening, repainting and closing carry it along. Said of any set of
-- open blocks and any cell for each address, so that each step is shown once. Assumes nothing.
use mathlib.Core.Path.{◌≡◌, refl, sym, ap, subst, ◌∙◌}
use mathlib.Core.Bool.{Bool, true, false, cond, false≢true}
use mathlib.Core.List.{List}
use Prim.Native.Nat.{ℕ, ◌+◌, ◌*◌, ◌≤◌, ◌<◌}
use native.Mathlib.Omega.{arith}
use lib.ListN.{length, get_or, set, length-set}
use lib.Seq.{get_or-set_same, get_or-set_other}
use Rattle.ground.proofs.Cases.{by_eq}
use Rattle.tables.specs.inner.Ready.{Owns}
use Rattle.ground.proofs.Lists.{get_or_where, length_where}
use Rattle.prefix.specs.declared.Prefix.{Prefix}
use Rattle.prefix.specs.Prefixes.{contains}
use Rattle.prefix.specs.Geometry.{block_size, blocks, block_start}
use Rattle.cells.specs.Cells.{pointer_bit, point_to}
use Rattle.cells.specs.Memory.{Tables, Sized}
use Rattle.tables.specs.Cellwise.{repainted}
use Rattle.tables.specs.Changes.{opened_at, closed_at}
use Rattle.tables.proofs.Segments.{direct_in_lem, pointer_in, free_in, owned_in, address_at}
use Rattle.tables.proofs.Filling.{filled_in, filled_out, length_filled}

-- ---- what the tables hold

-- block k points to a segment that it owns, and that holds the cells of its addresses
pub record Segment (t : Prefix) (C : ℕ → ℕ) (T : Tables) (k : ℕ) : Type 0 where
  pub number : ℕ
  pub owns : Owns T k number
  pub cells : (i : ℕ) → i < block_size → get_or T.long (number * block_size + i) 0 ≡ C (block_start t k + i)

-- segment s belongs to an open block, which points to it
pub record Belongs (t : Prefix) (O : ℕ → Bool) (T : Tables) (s : ℕ) : Type 0 where
  pub block : ℕ
  pub inside : block < blocks t
  pub says_open : O block ≡ true
  pub owner : get_or T.owners s 0 ≡ block + 1
  pub points : get_or T.first block 0 ≡ point_to s

-- O says which blocks are open, and C is the cell of an address
pub record Holds (t : Prefix) (O : ℕ → Bool) (C : ℕ → ℕ) (T : Tables) : Type 0 where
  pub sized : Sized t T
  pub direct : (a : ℕ) → C a < pointer_bit
  pub closed : (k : ℕ) → k < blocks t → O k ≡ false → get_or T.first k 0 ≡ C (block_start t k)
  pub open_at : (k : ℕ) → k < blocks t → O k ≡ true → Segment t C T k
  pub owned : (s : ℕ) → s < length T.owners → ¬ (get_or T.owners s 0 ≡ 0) → Belongs t O T s
  pub free : (s : ℕ) → s < length T.owners → get_or T.owners s 0 ≡ 0 → (i : ℕ) → i < block_size → get_or T.long (s * block_size + i) 0 ≡ 0

-- what a first cell says of its block
module _ {t : Prefix} {O : ℕ → Bool} {C : ℕ → ℕ} {T : Tables} (H : Holds t O C T) {k : ℕ} (inside : k < blocks t) where
  pub closed_cell : get_or T.first k 0 < pointer_bit → O k ≡ false
  closed_cell h = go (O k) refl
    where
      go : (x : Bool) → O k ≡ x → x ≡ false
      go true e = let S = H.open_at k inside e in absurd (omega (arith, S.owns.points))
      go false e = refl

  pub open_pointer : pointer_bit ≤ get_or T.first k 0 → O k ≡ true
  open_pointer h = go (O k) refl
    where
      go : (x : Bool) → O k ≡ x → x ≡ true
      go true e = refl
      go false e = absurd (omega (arith, H.closed k inside e, H.direct (block_start t k)))

-- a cell of a lent segment is lent
in_long : {t : Prefix} {T : Tables} → Sized t T → (s i : ℕ) → s < length T.owners → i < block_size → s * block_size + i < length T.long
in_long z s i h j = omega (arith, z.longs)

-- ---- cleared tables: no block is open, and every cell is 0

pub cleared-tables : {t : Prefix} {T : Tables} → Sized t T → ((k : ℕ) → get_or T.first k 0 ≡ 0) → ((j : ℕ) → get_or T.long j 0 ≡ 0)
    → ((s : ℕ) → get_or T.owners s 0 ≡ 0) → Holds t (λ k. false) (λ a. 0) T
cleared-tables z zf zl zo = record {
  sized = z;
  direct = λ a. omega arith;
  closed = λ k h o. zf k;
  open_at = λ k h o. absurd (false≢true o);
  owned = λ s h n. absurd (n (zo s));
  free = λ s h z i j. zl (s * block_size + i);
}

-- ---- the same tables, for the same open blocks and the same cells

pub retold : {t : Prefix} {O Q : ℕ → Bool} {C D : ℕ → ℕ} {T : Tables} → Holds t O C T → ((k : ℕ) → k < blocks t → Q k ≡ O k)
    → ((a : ℕ) → D a ≡ C a) → Holds t Q D T
retold {t} {O} {Q} {C} {D} {T} H o c = record {
  sized = H.sized;
  direct = λ a. rw (c a) (H.direct a);
  closed = λ k h q. H.closed k h (sym (o k h) ∙ q) ∙ sym (c (block_start t k));
  open_at = λ k h q.
      let S = H.open_at k h (sym (o k h) ∙ q) in
      record { number = S.number; owns = S.owns; cells = λ i j. S.cells i j ∙ sym (c (block_start t k + i)) };
  owned = λ s h n.
      let B = H.owned s h n in
      record { block = B.block; inside = B.inside; says_open = o B.block B.inside ∙ B.says_open; owner = B.owner; points = B.points };
  free = H.free;
}

-- ---- repainting: each cell in the prefix is changed by f

module _ {t : Prefix} {O : ℕ → Bool} {C : ℕ → ℕ} {T : Tables} (H : Holds t O C T) (p : Prefix) (f : ℕ → ℕ → ℕ) where
  -- the cell of an address then
  abbrev after : ℕ → ℕ
  after a = cond (contains p a) (f a (C a)) (C a)

  -- a pointer is not repainted
  pub pointer_stays : (k s : ℕ) → k < blocks t → get_or T.first k 0 ≡ point_to s → get_or (repainted t p f T).first k 0 ≡ get_or T.first k 0
  unfolding repainted
  pointer_stays k s h e = get_or_where _ _ T.first k (omega (arith, H.sized.firsts)) ∙ rw (pointer_in t p T.first k s e)

  segment_after : (k : ℕ) → k < blocks t → Segment t C T k → Segment t after (repainted t p f T) k
  unfolding repainted
  segment_after k h S = record {
    number = S.number;
    owns = record { points = pointer_stays k S.number h S.owns.points ∙ S.owns.points; lent = S.owns.lent; owner = S.owns.owner };
    cells = λ i j.
        get_or_where _ _ T.long (S.number * block_size + i) (in_long H.sized S.number i S.owns.lent j)
        ∙ rw (owned_in t p T S.number i j S.owns, address_at t p T S.number i j S.owns, S.cells i j);
  }

  pub repaint_step : ((a : ℕ) → after a < pointer_bit) → Holds t O after (repainted t p f T)
  unfolding repainted
  repaint_step small = record {
    sized = record {
      territory = H.sized.territory;
      firsts = length_where _ _ T.first ∙ H.sized.firsts;
      longs = length_where _ _ T.long ∙ H.sized.longs;
      few = H.sized.few;
    };
    direct = small;
    closed = λ k h o.
        let e = H.closed k h o in
        get_or_where _ _ T.first k (omega (arith, H.sized.firsts))
        ∙ rw (direct_in_lem t p T.first k (rw e (H.direct (block_start t k))), e);
    open_at = λ k h o. segment_after k h (H.open_at k h o);
    owned = λ s h n.
        let B = H.owned s h n in
        record { block = B.block; inside = B.inside; says_open = B.says_open; owner = B.owner; points = pointer_stays B.block s B.inside B.points ∙ B.points };
    free = λ s h z i j.
        get_or_where _ _ T.long (s * block_size + i) (in_long H.sized s i h j) ∙ rw (free_in t p T s i j z) (H.free s h z i j);
  }

-- ---- opening: block b, which was closed, gets the free segment s, whose cells take its first cell

module _ {t : Prefix} {O Q : ℕ → Bool} {C : ℕ → ℕ} {T : Tables} (H : Holds t O C T) (b s : ℕ) (inside : b < blocks t)
    (lent : s < length T.owners) (was : O b ≡ false) (vacant : get_or T.owners s 0 ≡ 0) (now-open : Q b ≡ true)
    (others : (k : ℕ) → ¬ (k ≡ b) → Q k ≡ O k) (one : (i : ℕ) → i < block_size → C (block_start t b + i) ≡ C (block_start t b)) where
  abbrev first' : List ℕ
  first' = set T.first b (point_to s)

  abbrev owners' : List ℕ
  owners' = set T.owners s (b + 1)

  same_owners : length owners' ≡ length T.owners
  same_owners = length-set T.owners s (b + 1)

  -- another open block keeps its segment
  other_segment : (k : ℕ) → ¬ (k ≡ b) → Segment t C T k → Segment t C (opened_at b s T) k
  unfolding opened_at
  other_segment k d S =
      let n : ¬ (S.number ≡ s) = λ e. let z = sym S.owns.owner ∙ ap (λ (x : ℕ). get_or T.owners x 0) e ∙ vacant in omega arith in
      record {
        number = S.number;
        owns = record { points = get_or-set_other T.first b k (point_to s) 0 d ∙ S.owns.points; lent = rw same_owners S.owns.lent; owner = get_or-set_other T.owners s S.number (b + 1) 0 n ∙ S.owns.owner };
        cells = λ i j.
            filled_out s (get_or T.first b 0) T.long S.number i j n ∙ S.cells i j;
      }

  mine : Segment t C (opened_at b s T) b
  unfolding opened_at
  mine = record {
    number = s;
    owns = record { points = get_or-set_same T.first b (point_to s) 0 (omega (arith, H.sized.firsts)); lent = rw same_owners lent; owner = get_or-set_same T.owners s (b + 1) 0 lent };
    cells = λ i j.
        filled_in s (get_or T.first b 0) T.long i j (in_long H.sized s i lent j) ∙ H.closed b inside was ∙ sym (one i j);
  }

  other-own : (n : ℕ) → n < length T.owners → ¬ (get_or owners' n 0 ≡ 0) → ¬ (n ≡ s) → Belongs t Q (opened_at b s T) n
  unfolding opened_at
  other-own n h z d =
      let same = get_or-set_other T.owners s n (b + 1) 0 d in
      let B = H.owned n h (λ e. z (same ∙ e)) in
      let c : ¬ (B.block ≡ b) = λ e. false≢true (sym was ∙ ap O (sym e) ∙ B.says_open) in
      record {
        block = B.block;
        inside = B.inside;
        says_open = others B.block c ∙ B.says_open;
        owner = same ∙ B.owner;
        points = get_or-set_other T.first b B.block (point_to s) 0 c ∙ B.points;
      }

  pub open_step : Holds t Q C (opened_at b s T)
  unfolding opened_at mine
  open_step = record {
    sized = record {
      territory = H.sized.territory;
      firsts = length-set T.first b (point_to s) ∙ H.sized.firsts;
      longs = length_filled s (get_or T.first b 0) T.long ∙ H.sized.longs ∙ ap (λ (n : ℕ). block_size * n) (sym same_owners);
      few = omega (arith, same_owners, H.sized.few);
    };
    direct = H.direct;
    closed = λ k h o.
        let d : ¬ (k ≡ b) = λ e. false≢true (sym o ∙ ap Q e ∙ now-open) in
        get_or-set_other T.first b k (point_to s) 0 d ∙ H.closed k h (sym (others k d) ∙ o);
    open_at = λ k h o.
        by_eq k b (λ e. subst (Segment t C (opened_at b s T)) (sym e) mine) (λ d. other_segment k d (H.open_at k h (sym (others k d) ∙ o)));
    owned = λ n h z.
        by_eq n s
        (λ e. subst (Belongs t Q (opened_at b s T)) (sym e)
        (record { block = b; inside = inside; says_open = now-open; owner = mine.owns.owner; points = mine.owns.points }))
        (other-own n (rw same_owners at h) z);
    free = λ n h z i j.
        let d : ¬ (n ≡ s) = λ e. let y = sym z ∙ ap (λ (x : ℕ). get_or owners' x 0) e ∙ mine.owns.owner in omega arith in
        let l : n < length T.owners = rw same_owners at h in
        filled_out s (get_or T.first b 0) T.long n i j d
        ∙ H.free n l (sym (get_or-set_other T.owners s n (b + 1) 0 d) ∙ z) i j;
  }

-- ---- closing: block b, which was open, takes its own cell, and its segment is emptied and free

module _ {t : Prefix} {O Q : ℕ → Bool} {C : ℕ → ℕ} {T : Tables} (H : Holds t O C T) (b s : ℕ) (inside : b < blocks t)
    (was : O b ≡ true) (points : get_or T.first b 0 ≡ point_to s) (now-closed : Q b ≡ false)
    (others : (k : ℕ) → ¬ (k ≡ b) → Q k ≡ O k) where
  abbrev cell : ℕ
  cell = C (block_start t b)

  -- the segment that the block points to is its own
  own : Segment t C T b
  own = H.open_at b inside was

  same_number : own.number ≡ s
  same_number = let e = sym own.owns.points ∙ points in omega arith

  lent : s < length T.owners
  lent = rw same_number at own.owns.lent

  owner : get_or T.owners s 0 ≡ b + 1
  owner = rw same_number at own.owns.owner

  fewer : length (set T.owners s 0) ≡ length T.owners
  fewer = length-set T.owners s 0

  still_open : (k : ℕ) → ¬ (k ≡ b) → Segment t C T k → Segment t C (closed_at b s cell T) k
  unfolding closed_at
  still_open k d S =
      let n : ¬ (S.number ≡ s) = λ e. let z = sym S.owns.owner ∙ ap (λ (x : ℕ). get_or T.owners x 0) e ∙ owner in d (omega arith) in
      record {
        number = S.number;
        owns = record { points = get_or-set_other T.first b k cell 0 d ∙ S.owns.points; lent = rw fewer S.owns.lent; owner = get_or-set_other T.owners s S.number 0 0 n ∙ S.owns.owner };
        cells = λ i j. filled_out s 0 T.long S.number i j n ∙ S.cells i j;
      }

  still_own : (n : ℕ) → n < length T.owners → ¬ (get_or (set T.owners s 0) n 0 ≡ 0) → Belongs t Q (closed_at b s cell T) n
  unfolding closed_at
  still_own n h z =
      let d : ¬ (n ≡ s) = λ e. z (ap (λ (x : ℕ). get_or (set T.owners s 0) x 0) e ∙ get_or-set_same T.owners s 0 0 lent) in
      let same = get_or-set_other T.owners s n 0 0 d in
      let B = H.owned n h (λ e. z (same ∙ e)) in
      let c : ¬ (B.block ≡ b) = λ e. let q = sym B.points ∙ ap (λ (x : ℕ). get_or T.first x 0) e ∙ points in d (omega arith) in
      record {
        block = B.block;
        inside = B.inside;
        says_open = others B.block c ∙ B.says_open;
        owner = same ∙ B.owner;
        points = get_or-set_other T.first b B.block cell 0 c ∙ B.points;
      }

  pub close_step : Holds t Q C (closed_at b s cell T)
  unfolding closed_at
  close_step = record {
    sized = record {
      territory = H.sized.territory;
      firsts = length-set T.first b cell ∙ H.sized.firsts;
      longs = length_filled s 0 T.long ∙ H.sized.longs ∙ ap (λ (n : ℕ). block_size * n) (sym fewer);
      few = omega (arith, fewer, H.sized.few);
    };
    direct = H.direct;
    closed = λ k h o.
        by_eq k b
        (λ e. rw e (get_or-set_same T.first b cell 0 (omega (arith, H.sized.firsts))))
        (λ d. get_or-set_other T.first b k cell 0 d ∙ H.closed k h (sym (others k d) ∙ o));
    open_at = λ k h o.
        let d : ¬ (k ≡ b) = λ e. false≢true (sym now-closed ∙ ap Q (sym e) ∙ o) in
        still_open k d (H.open_at k h (sym (others k d) ∙ o));
    owned = λ n h z. still_own n (rw fewer at h) z;
    free = λ n h z i j.
        let l : n < length T.owners = rw fewer at h in
        by_eq n s
        (λ e. rw e (filled_in s 0 T.long i j (in_long H.sized s i lent j)))
        (λ d. filled_out s 0 T.long n i j d ∙ H.free n l (sym (get_or-set_other T.owners s n 0 0 d) ∙ z) i j);
  }
