-- What a crash leaves of an area while its gate is closed, while an image is written behind it, and while it is opened.
use Rattle.std.proofs.Common.{◌≡◌, ◌≢◌, ◌⊎◌, inl, inr, ℕ, ◌≤◌, true, false, List, [], ◌∷◌, ◌++◌, length, take, drop, get_or, Option, Some, None, IfSome, is_some, refl, sym, ap, ◌∙◌, subst, arith}
use Rattle.std.proofs.lemmas.Bool.{and_parts, and_from, leb-true, eqb-true, le-leb, false_from_ne_true, cases_Bool}
use Rattle.std.proofs.lemmas.List.{take-take}
use Rattle.outside_io.proofs.Places.{here, there, twice, same_areas, same_with, told}
use Rattle.outside_io.specs.declared.disk.Area.{Area}
use Rattle.outside_io.specs.Areas.{Areas, bytes_of, with_bytes, other_area}
use Rattle.outside_io.specs.Crash.{Torn, Shortened, InArea, Follows, Only, OnlyIn, Rests}
use Rattle.check_disk.specs.declared.target.Target.{Target}
use Rattle.mesh_model.specs.Images.Held.{is_open}
use Rattle.check_disk.specs.Held.{next_of}
use Rattle.check_disk.specs.Steps.{IsShut, IsReady, IsWritten, IsBehind, IsOpened, KeepsGate}
use Rattle.check_disk.proofs.Newer.{next_closed}

-- a shut gate
pub shut_closed : (bytes : List ℕ) → get_or bytes 0 0 ≢ 1 → is_open bytes ≡ false
shut_closed bytes shut = false_from_ne_true (is_open bytes) (λ e. shut (eqb-true _ _ (and_parts _ _ e).1))

short_closed : (bytes : List ℕ) → length bytes ≤ 1 → is_open bytes ≡ false
short_closed bytes short = false_from_ne_true (is_open bytes) (λ e. let l : 2 ≤ length bytes = leb-true _ _ (and_parts _ _ e).0 in absurd (omega arith))

-- bytes behind an open gate
pub behind_open : (bytes : List ℕ) → 1 ≤ length bytes → is_open (1 ∷ bytes) ≡ true
behind_open bytes some = and_from _ _ (le-leb 2 (length (1 ∷ bytes)) (omega arith)) refl

-- a gate that a write tore, over an area that is empty or open: closed, or what it was
torn_gate : (old new : List ℕ) → Torn 0 1 old new → (length old ≡ 0) ⊎ (get_or old 0 0 ≡ 1) → (is_open new ≡ false) ⊎ (new ≡ old)
torn_gate [] new torn was = let l = torn.no_longer in inl (short_closed new (omega arith))
torn_gate (x ∷ xs) [] torn was = inl (short_closed [] (omega arith))
torn_gate (x ∷ xs) (y ∷ ys) torn (inl none) = absurd (omega arith)
torn_gate (x ∷ xs) (y ∷ ys) torn (inr one) = elim (cases_Bool (is_open (y ∷ ys))) [
  | inl opened ↦ let now : y ≡ 1 = eqb-true _ _ (and_parts _ _ opened).1 in let rest : ys ≡ xs = torn.after in inr (λ i. (now ∙ sym one) i ∷ rest i)
  | inr closed ↦ inl closed
]

-- a gate that a write tore over an image: closed, or open with the image
torn_open : (gate : ℕ) (bytes new : List ℕ) → Torn 0 1 (gate ∷ bytes) new → (is_open new ≡ false) ⊎ (new ≡ 1 ∷ bytes)
torn_open gate bytes [] torn = inl (short_closed [] (omega arith))
torn_open gate bytes (y ∷ ys) torn = elim (cases_Bool (is_open (y ∷ ys))) [
  | inl opened ↦ let now : y ≡ 1 = eqb-true _ _ (and_parts _ _ opened).1 in let rest : ys ≡ bytes = torn.after in inr (λ i. now i ∷ rest i)
  | inr closed ↦ inl closed
]

gate_of : (xs ys : List ℕ) → 1 ≤ length xs → take 1 xs ≡ take 1 ys → get_or xs 0 0 ≡ get_or ys 0 0
gate_of [] ys long same = absurd (omega arith)
gate_of (x ∷ xs) [] long same = cc
gate_of (x ∷ xs) (y ∷ ys) long same = cc

-- behind a gate that is kept the area is closed
pub kept_behind : (area : Area) (base c : Areas) → IsShut (bytes_of base area) → KeepsGate area base c → IsBehind area base c
kept_behind area base c shut keeps = record {
  there = keeps.there;
  closed = shut_closed (bytes_of c area) (λ e. shut.shut (sym (gate_of (bytes_of c area) (bytes_of base area) keeps.long keeps.gate) ∙ e));
}

pub keeps_torn : (area : Area) (base d c : Areas) (place n : ℕ) → 1 ≤ place → KeepsGate area base d → InArea area (Torn place n) d c → KeepsGate area base c
keeps_torn area base d c place n far keeps step =
    let torn = step.here in
    record {
      there = step.there ∙ keeps.there;
      long = (let l = keeps.long in let m = torn.no_shorter in omega arith);
      gate = sym (take-take 1 place (bytes_of c area) far) ∙ ap (λ (l : List ℕ). take 1 l) torn.before ∙ take-take 1 place (bytes_of d area) far ∙ keeps.gate;
    }

keeps_cut : (area : Area) (base d c : Areas) → KeepsGate area base d → InArea area (Shortened 1) d c → KeepsGate area base c
keeps_cut area base d c keeps step =
    let cut = step.here in
    let long : 1 ≤ length (bytes_of c area) = (let l = keeps.long in let m = cut.no_shorter in omega arith) in
    record {
      there = step.there ∙ keeps.there;
      long = long;
      gate = ap (λ (l : List ℕ). take 1 l) cut.front ∙ take-take 1 (length (bytes_of c area)) (bytes_of d area) long ∙ keeps.gate;
    }

-- what a crash leaves while the gate is closed, and while it is opened
pub while_closing : (area : Area) (areas c : Areas) → (length (bytes_of areas area) ≡ 0) ⊎ (get_or (bytes_of areas area) 0 0 ≡ 1)
    → InArea area (Torn 0 1) areas c → (c ≡ areas) ⊎ IsBehind area areas c
while_closing area areas c was step = elim (torn_gate (bytes_of areas area) (bytes_of c area) step.here was) [
  | inl closed ↦ inr (record { there = step.there; closed = closed })
  | inr same ↦ inl (same_areas area c areas same step.there)
]

pub while_opening : (target : Target) (areas c : Areas) (bytes : List ℕ) → IsWritten areas target bytes → InArea target.area (Torn 0 1) areas c
    → IsBehind target.area areas c ⊎ IsOpened target.area bytes areas c
while_opening target areas c bytes written step =
    elim (torn_open written.gate bytes (bytes_of c target.area) (subst (λ b. Torn 0 1 b (bytes_of c target.area)) written.bytes_are step.here)) [
      | inl closed ↦ inl (record { there = step.there; closed = closed })
      | inr same ↦ inr (record { there = step.there; here = same })
    ]

-- when the gate has to be closed, by its byte, or 1 where there is none
pub must_close : (bytes : List ℕ) → get_or bytes 0 1 ≡ 1 → (length bytes ≡ 0) ⊎ (get_or bytes 0 0 ≡ 1)
must_close [] is = inl refl
must_close (x ∷ xs) is = inr is

pub is_shut : (bytes : List ℕ) → get_or bytes 0 1 ≢ 1 → IsShut bytes
is_shut [] is = absurd (is refl)
is_shut (x ∷ xs) is = record { long = omega arith; shut = is }

-- an area that is ready is closed
pub ready_behind : (target : Target) (areas : Areas) → IsReady areas target → IsBehind target.area areas areas
ready_behind target areas ready = record { there = refl; closed = shut_closed (bytes_of areas target.area) ready.shut.shut }

-- an area whose gate was closed
pub closes : (target : Target) (areas : Areas) → next_of areas ≡ target
    → IsReady (with_bytes areas target.area (0 ∷ drop 1 (bytes_of areas target.area))) target × IsBehind target.area areas (with_bytes areas target.area (0 ∷ drop 1 (bytes_of areas target.area)))
closes target areas next =
    let bytes = 0 ∷ drop 1 (bytes_of areas target.area) in
    let is_here = here areas target.area bytes in
    let shut : is_open (bytes_of (with_bytes areas target.area bytes) target.area) ≡ false = ap is_open is_here ∙ shut_closed bytes (λ e. absurd (omega arith)) in (
      record {
        follows = next_closed target.area target.turn areas (with_bytes areas target.area bytes) next (there areas target.area bytes) shut;
        shut = subst IsShut (sym is_here) (record { long = omega arith; shut = λ e. absurd (omega arith) });
      },
      record { there = there areas target.area bytes; closed = shut },
    )

-- the same, of what a read gives
pub closed_reads : (o now : Option Areas) (target : Target) → IfSome o (λ areas. next_of areas ≡ target) → IfSome o (λ areas. now ≡ Some (with_bytes areas target.area (0 ∷ drop 1 (bytes_of areas target.area)))) → is_some now ≡ is_some o
    → IfSome now (λ after. IsReady after target)
closed_reads None None target next put tells = tt
closed_reads None (Some now) target next put tells = cc
closed_reads (Some areas) now target next put tells = subst (λ (o : Option Areas). IfSome o (λ after. IsReady after target)) (sym put) (closes target areas next).0

front : (xs : List ℕ) → 1 ≤ length xs → take 1 xs ≡ get_or xs 0 0 ∷ []
front [] long = absurd (omega arith)
front (x ∷ xs) long = refl

-- the image behind a closed gate
pub writes : (target : Target) (areas : Areas) (image : List ℕ) → IsReady areas target
    → IsWritten (with_bytes areas target.area (take 1 (bytes_of areas target.area) ++ image)) target image × IsBehind target.area areas (with_bytes areas target.area (take 1 (bytes_of areas target.area) ++ image))
writes target areas image ready =
    let gate = get_or (bytes_of areas target.area) 0 0 in
    let bytes = take 1 (bytes_of areas target.area) ++ image in
    let is_here = here areas target.area bytes in
    let first : bytes ≡ gate ∷ image = ap (λ (l : List ℕ). l ++ image) (front (bytes_of areas target.area) ready.shut.long) in
    let shut : is_open (bytes_of (with_bytes areas target.area bytes) target.area) ≡ false = ap is_open (is_here ∙ first) ∙ shut_closed (gate ∷ image) ready.shut.shut in (
      record {
        follows = next_closed target.area target.turn areas (with_bytes areas target.area bytes) ready.follows (there areas target.area bytes) shut;
        gate = gate;
        shut = ready.shut.shut;
        bytes_are = is_here ∙ first;
      },
      record { there = there areas target.area bytes; closed = shut },
    )

pub written_reads : (o cut put new : Option Areas) (target : Target) (image : List ℕ) → IfSome o (λ areas. IsReady areas target) → IfSome o (λ x. cut ≡ Some (with_bytes x target.area (take 1 (bytes_of x target.area))))
    → IfSome cut (λ x. put ≡ Some (with_bytes x target.area (bytes_of x target.area ++ image))) → new ≡ put → is_some new ≡ is_some o → IfSome new (λ after. IsWritten after target image)
written_reads None cut put None target image ready is_cut wrote same tells = tt
written_reads None cut put (Some new) target image ready is_cut wrote same tells = cc
written_reads (Some areas) cut put new target image ready is_cut wrote same tells =
    let area = target.area in
    let start = take 1 (bytes_of areas area) in
    let is_put = told cut (λ x. put ≡ Some (with_bytes x area (bytes_of x area ++ image))) (with_bytes areas area start) is_cut wrote in
    let holds = same ∙ is_put ∙ ap Some (twice areas area start (bytes_of (with_bytes areas area start) area ++ image) ∙ ap (λ l. with_bytes areas area (l ++ image)) (here areas area start)) in
    subst (λ (o : Option Areas). IfSome o (λ after. IsWritten after target image)) (sym holds) (writes target areas image ready).0

-- the gate opened over the image
pub opens : (target : Target) (areas : Areas) (bytes : List ℕ) → IsWritten areas target bytes → IsOpened target.area bytes areas (with_bytes areas target.area (1 ∷ drop 1 (bytes_of areas target.area)))
opens target areas bytes written =
    let new = 1 ∷ drop 1 (bytes_of areas target.area) in
    record {
      there = there areas target.area new;
      here = here areas target.area new ∙ ap (λ (l : List ℕ). 1 ∷ drop 1 l) written.bytes_are;
    }

-- what a crash leaves after the cut keeps the gate
pub after_cut : (area : Area) (areas : Areas) (old new : Areas → Type 0) → IsShut (bytes_of areas area) → Only areas old → Follows (InArea area (Shortened 1)) old new → (c : Areas) → new c → KeepsGate area areas c
after_cut area areas old new shut only follows c left =
    let from = follows c left in
    let start : KeepsGate area areas areas = record { there = refl; long = shut.long; gate = refl } in
    keeps_cut area areas from.0 c (subst (KeepsGate area areas) (sym (only from.0 from.1)) start) from.2

-- what is at rest after the sync
pub synced : {D : Type 0} (holds : D → Option Areas) (may_leave : D → Areas → Type 0) (mid new : D) (area : Area) (base : Areas) (bytes : List ℕ)
    → holds mid ≡ Some (with_bytes base area bytes) → holds new ≡ holds mid → ((c : Areas) → may_leave new c → may_leave mid c)
    → IfSome (holds mid) (λ areas. OnlyIn area (bytes_of areas area) (may_leave new)) → ((c : Areas) → may_leave mid c → bytes_of c (other_area area) ≡ bytes_of base (other_area area))
    → Rests holds may_leave new (with_bytes base area bytes)
synced holds may_leave mid new area base bytes is kept crash durable same = record {
  told = kept ∙ is;
  only = λ c left. same_with area c base bytes (told (holds mid) (λ areas. OnlyIn area (bytes_of areas area) (may_leave new)) (with_bytes base area bytes) is durable c left ∙ here base area bytes) (same c (crash c left));
}
