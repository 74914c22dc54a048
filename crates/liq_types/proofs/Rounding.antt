-- The inequalities of the rounding theorem and of the troves' sums, over plain numbers. Each is linear in the facts
-- named in it.
use Rattle.std.proofs.Common.{◌≡◌, ℕ, ◌+◌, ◌-◌, ◌*◌, ◌≤◌, ap, arith}
use Rattle.std.proofs.Math.Nat.{mul-le-mul_right, mul-sub}

-- of two numbers in order, the greater goes with the greater
pub swapped : (e f u b : ℕ) → e ≤ f → u ≤ b → e * b + f * u ≤ f * b + e * u
swapped e f u b h k =
    let more : e * (b - u) ≤ f * (b - u) = mul-le-mul_right (b - u) h in
    let left : e * (b - u) ≡ e * b - e * u = mul-sub e b u in
    let right : f * (b - u) ≡ f * b - f * u = mul-sub f b u in
    let under : u * e ≤ b * e = mul-le-mul_right e k in
    let over : u * f ≤ b * f = mul-le-mul_right f k in
    omega arith

pub balance_kept : (a v v1 den bal q total rest : ℕ) → v1 * total ≤ v * rest → a * v * den ≤ bal * q
    → a * v1 * (den * total) ≤ bal * rest * q
balance_kept a v v1 den bal q total rest less h =
    let first : v1 * total * (a * den) ≤ v * rest * (a * den) = mul-le-mul_right (a * den) less in
    let second : a * v * den * rest ≤ bal * q * rest = mul-le-mul_right rest h in
    omega arith

pub gain_kept : (a v x g s den bal gain q total coll : ℕ) → x * total ≤ coll * v → a * v * den ≤ bal * q
    → (g * q + a * s) * den ≤ gain * q → (g * q + a * (s + x)) * (den * total) ≤ (gain * total + coll * bal) * q
gain_kept a v x g s den bal gain q total coll less h k =
    let first : x * total * (a * den) ≤ coll * v * (a * den) = mul-le-mul_right (a * den) less in
    let second : a * v * den * coll ≤ bal * q * coll = mul-le-mul_right coll h in
    let third : (g * q + a * s) * den * total ≤ gain * q * total = mul-le-mul_right total k in
    omega arith

pub balance_close : (a v v1 unit den bal q n w c lost total rest : ℕ) → rest ≤ total
    → v * rest ≤ v1 * total + unit * total → n * a * unit ≤ c * q → bal * q * n ≤ (a * v * n + (w + n * lost) * q) * den
    → bal * rest * q * n ≤ (a * v1 * n + (w + c + n * lost) * q) * (den * total)
balance_close a v v1 unit den bal q n w c lost total rest part near weight h =
    let first : bal * q * n * rest ≤ (a * v * n + (w + n * lost) * q) * den * rest = mul-le-mul_right rest h in
    let second : v * rest * (a * n * den) ≤ (v1 * total + unit * total) * (a * n * den) =
    mul-le-mul_right (a * n * den) near in
    let third : n * a * unit * (den * total) ≤ c * q * (den * total) = mul-le-mul_right (den * total) weight in
    let fourth : rest * ((w + n * lost) * q * den) ≤ total * ((w + n * lost) * q * den) =
    mul-le-mul_right ((w + n * lost) * q * den) part in
    omega arith

pub gain_close : (a v v1 x s g unit gain den bal q n w c lost debt coll total rest : ℕ) → debt + rest ≡ total
    → coll ≤ 11 * debt → a * v * den ≤ bal * q → coll * v ≤ x * total + unit * total
    → v * rest ≤ v1 * total + unit * total → n * a * unit ≤ c * q → (gain + 11 * bal) * q * n
    ≤ ((g * q + a * s + 11 * (a * v)) * n + (12 * w + 15 * (n * lost)) * q) * den
    → (gain * total + coll * bal + 11 * (bal * rest)) * q * n
    ≤ ((g * q + a * (s + x) + 11 * (a * v1)) * n + (12 * (w + c) + 15 * (n * lost)) * q) * (den * total)
gain_close a v v1 x s g unit gain den bal q n w c lost debt coll total rest whole worth_less upper near_gain near
    weight h =
    let f1 : (gain + 11 * bal) * q * n * total ≤ ((g * q + a * s + 11 * (a * v)) * n + (12 * w + 15 * (n * lost)) * q)
    * den * total = mul-le-mul_right total h in
    let f2 : coll * v * (a * den * n) ≤ (x * total + unit * total) * (a * den * n) =
    mul-le-mul_right (a * den * n) near_gain in
    let f3 : v * rest * (a * den * n) ≤ (v1 * total + unit * total) * (a * den * n) =
    mul-le-mul_right (a * den * n) near in
    let f4 : n * a * unit * (den * total) ≤ c * q * (den * total) = mul-le-mul_right (den * total) weight in
    let f5 : (coll * (bal * q) + 11 * debt * (a * v * den)) * n ≤ (11 * debt * (bal * q) + coll * (a * v * den)) * n =
    mul-le-mul_right n (swapped coll (11 * debt) (a * v * den) (bal * q) worth_less upper) in
    let f6 : (debt + rest) * (bal * q * n) ≡ total * (bal * q * n) = ap (λ k. k * (bal * q * n)) whole in
    let f7 : (debt + rest) * (a * v * den * n) ≡ total * (a * v * den * n) = ap (λ k. k * (a * v * den * n)) whole in
    omega arith

-- then cancel q, which is not 0
pub balance_ends : (a v den bal q n w c lost total rest : ℕ) → rest ≤ total → a * v * rest ≤ q * total
    → bal * q * n ≤ (a * v * n + (w + n * lost) * q) * den
    → bal * rest * n * q ≤ (w + c + n * (lost + 1)) * (den * total) * q
balance_ends a v den bal q n w c lost total rest part little h =
    let first : bal * q * n * rest ≤ (a * v * n + (w + n * lost) * q) * den * rest = mul-le-mul_right rest h in
    let second : a * v * rest * (n * den) ≤ q * total * (n * den) = mul-le-mul_right (n * den) little in
    let third : rest * ((w + n * lost) * q * den) ≤ total * ((w + n * lost) * q * den) =
    mul-le-mul_right ((w + n * lost) * q * den) part in
    omega arith

pub gain_ends : (a v x s g unit gain den bal q n w c lost debt coll total rest : ℕ) → debt + rest ≡ total
    → coll ≤ 11 * debt → a * v * den ≤ bal * q → coll * v ≤ x * total + unit * total → n * a * unit ≤ c * q
    → (gain + 11 * bal) * q * n ≤ ((g * q + a * s + 11 * (a * v)) * n + (12 * w + 15 * (n * lost)) * q) * den
    → a * v * rest ≤ q * total → (gain * total + coll * bal + 11 * (bal * rest)) * q * n
    ≤ ((g * q + a * (s + x)) * n + (12 * (w + c) + 15 * (n * lost) + 11 * n) * q) * (den * total)
gain_ends a v x s g unit gain den bal q n w c lost debt coll total rest whole worth_less upper near_gain weight h
    little =
    let f1 : (gain + 11 * bal) * q * n * total ≤ ((g * q + a * s + 11 * (a * v)) * n + (12 * w + 15 * (n * lost)) * q)
    * den * total = mul-le-mul_right total h in
    let f2 : coll * v * (a * den * n) ≤ (x * total + unit * total) * (a * den * n) =
    mul-le-mul_right (a * den * n) near_gain in
    let f4 : n * a * unit * (den * total) ≤ c * q * (den * total) = mul-le-mul_right (den * total) weight in
    let f5 : (coll * (bal * q) + 11 * debt * (a * v * den)) * n ≤ (11 * debt * (bal * q) + coll * (a * v * den)) * n =
    mul-le-mul_right n (swapped coll (11 * debt) (a * v * den) (bal * q) worth_less upper) in
    let f6 : (debt + rest) * (bal * q * n) ≡ total * (bal * q * n) = ap (λ k. k * (bal * q * n)) whole in
    let f7 : (debt + rest) * (a * v * den * n) ≡ total * (a * v * den * n) = ap (λ k. k * (a * v * den * n)) whole in
    let f8 : a * v * rest * (n * den) ≤ q * total * (n * den) = mul-le-mul_right (n * den) little in
    omega arith

pub ended_balance_kept : (den bal n w c more total rest : ℕ) → rest ≤ total → bal * n ≤ (w + n * more) * den
    → bal * rest * n ≤ (w + c + n * more) * (den * total)
ended_balance_kept den bal n w c more total rest part h =
    let first : bal * n * rest ≤ (w + n * more) * den * rest = mul-le-mul_right rest h in
    let second : rest * ((w + n * more) * den) ≤ total * ((w + n * more) * den) =
    mul-le-mul_right ((w + n * more) * den) part in
    omega arith

-- k is g * q + a * s, and more is 15 * lost + 11; without a deposit q is 1, k is g, and more is 15 * own events
pub ended_gain_kept : (k gain den bal q n w c more debt coll total rest : ℕ) → debt + rest ≡ total → coll ≤ 11 * debt
    → (gain + 11 * bal) * q * n ≤ (k * n + (12 * w + n * more) * q) * den
    → (gain * total + coll * bal + 11 * (bal * rest)) * q * n ≤ (k * n + (12 * (w + c) + n * more) * q) * (den * total)
ended_gain_kept k gain den bal q n w c more debt coll total rest whole worth_less h =
    let first : (gain + 11 * bal) * q * n * total ≤ (k * n + (12 * w + n * more) * q) * den * total =
    mul-le-mul_right total h in
    let second : coll * (bal * q * n) ≤ 11 * debt * (bal * q * n) = mul-le-mul_right (bal * q * n) worth_less in
    let third : (debt + rest) * (bal * q * n) ≡ total * (bal * q * n) = ap (λ k. k * (bal * q * n)) whole in
    omega arith

pub ended_upper_kept : (k gain den bal q total coll : ℕ) → k * den ≤ gain * q
    → k * (den * total) ≤ (gain * total + coll * bal) * q
ended_upper_kept k gain den bal q total coll h =
    let first : k * den * total ≤ gain * q * total = mul-le-mul_right total h in
    omega arith

-- both sides have the factor q, which is cancelled where it is cited
pub balance_read_upper : (a v b den bal q : ℕ) → b * q ≤ a * v → a * v * den ≤ bal * q → b * den * q ≤ bal * q
balance_read_upper a v b den bal q low h =
    let first : b * q * den ≤ a * v * den = mul-le-mul_right den low in
    omega arith

-- both sides have the factor q, which is cancelled where it is cited
pub gain_read_upper : (a s g more den gain q : ℕ) → more * q ≤ a * s → (g * q + a * s) * den ≤ gain * q
    → (g + more) * den * q ≤ gain * q
gain_read_upper a s g more den gain q low h =
    let first : more * q * den ≤ a * s * den = mul-le-mul_right den low in
    omega arith

-- both sides have the factor q, which is cancelled where it is cited
pub balance_read_lower : (a v b den bal q n w lost : ℕ) → a * v ≤ (b + 1) * q
    → bal * q * n ≤ (a * v * n + (w + n * lost) * q) * den → bal * n * q ≤ (b * n + w + n * (lost + 1)) * den * q
balance_read_lower a v b den bal q n w lost high h =
    let first : a * v * (n * den) ≤ (b + 1) * q * (n * den) = mul-le-mul_right (n * den) high in
    omega arith

-- both sides have the factor q, which is cancelled where it is cited
pub gain_read_lower : (a v b s g more den gain bal q n w lost : ℕ) → a * v ≤ (b + 1) * q → a * s ≤ (more + 4) * q
    → (gain + 11 * bal) * q * n ≤ ((g * q + a * s + 11 * (a * v)) * n + (12 * w + 15 * (n * lost)) * q) * den
    → (gain + 11 * bal) * n * q ≤ ((g + more + 11 * b) * n + 12 * w + 15 * (n * (lost + 1))) * den * q
gain_read_lower a v b s g more den gain bal q n w lost high most h =
    let first : a * v * (n * den) ≤ (b + 1) * q * (n * den) = mul-le-mul_right (n * den) high in
    let second : a * s * (n * den) ≤ (more + 4) * q * (n * den) = mul-le-mul_right (n * den) most in
    omega arith

-- both sides have the factor q, which is cancelled where it is cited
pub ended_gain_read : (a s g more den gain bal q n w lost : ℕ) → a * s ≤ (more + 4) * q → (gain + 11 * bal) * q * n
    ≤ ((g * q + a * s) * n + (12 * w + 15 * (n * lost) + 11 * n) * q) * den → (gain + 11 * bal) * n * q
    ≤ ((g + more) * n + 12 * w + 15 * (n * (lost + 1))) * den * q
ended_gain_read a s g more den gain bal q n w lost most h =
    let first : a * s * (n * den) ≤ (more + 4) * q * (n * den) = mul-le-mul_right (n * den) most in
    omega arith

pub own_balance_upper : (a1 b den bal bal1 q1 put_in out : ℕ) → bal1 + out * den ≡ bal + put_in * den
    → a1 + out ≡ b + put_in → b * den ≤ bal → a1 * q1 * den ≤ bal1 * q1
own_balance_upper a1 b den bal bal1 q1 put_in out share left h =
    let first : b * den * q1 ≤ bal * q1 = mul-le-mul_right q1 h in
    let sh : (bal1 + out * den) * (q1) ≡ (bal + put_in * den) * (q1) = ap (λ k. k * (q1)) share in
    let lf : (a1 + out) * (q1 * den) ≡ (b + put_in) * (q1 * den) = ap (λ k. k * (q1 * den)) left in
    omega arith

pub own_balance_lower : (a1 b den bal bal1 q1 n w m put_in out : ℕ) → bal1 + out * den ≡ bal + put_in * den
    → a1 + out ≡ b + put_in → bal * n ≤ (b * n + w + n * m) * den
    → bal1 * q1 * n ≤ (a1 * q1 * n + (w + n * m) * q1) * den
own_balance_lower a1 b den bal bal1 q1 n w m put_in out share left h =
    let first : bal * n * q1 ≤ (b * n + w + n * m) * den * q1 = mul-le-mul_right q1 h in
    let sh : (bal1 + out * den) * (q1 * n) ≡ (bal + put_in * den) * (q1 * n) = ap (λ k. k * (q1 * n)) share in
    let lf : (a1 + out) * (q1 * n * den) ≡ (b + put_in) * (q1 * n * den) = ap (λ k. k * (q1 * n * den)) left in
    omega arith

pub own_gain_lower : (a1 b g den gain bal bal1 q1 n w m put_in out : ℕ) → bal1 + out * den ≡ bal + put_in * den
    → a1 + out ≡ b + put_in → (gain + 11 * bal) * n ≤ ((g + 11 * b) * n + 12 * w + 15 * (n * m)) * den
    → (gain + 11 * bal1) * q1 * n ≤ ((g * q1 + a1 * 0 + 11 * (a1 * q1)) * n + (12 * w + 15 * (n * m)) * q1) * den
own_gain_lower a1 b g den gain bal bal1 q1 n w m put_in out share left h =
    let first : (gain + 11 * bal) * n * q1 ≤ ((g + 11 * b) * n + 12 * w + 15 * (n * m)) * den * q1 =
    mul-le-mul_right q1 h in
    let sh : (bal1 + out * den) * (q1 * n) ≡ (bal + put_in * den) * (q1 * n) = ap (λ k. k * (q1 * n)) share in
    let lf : (a1 + out) * (q1 * n * den) ≡ (b + put_in) * (q1 * n * den) = ap (λ k. k * (q1 * n * den)) left in
    omega arith

pub own_none_balance : (b den bal bal1 n w m put_in out : ℕ) → bal1 + out * den ≡ bal + put_in * den → out ≡ b + put_in
    → bal * n ≤ (b * n + w + n * m) * den → bal1 * n ≤ (w + n * (m + 1)) * den
own_none_balance b den bal bal1 n w m put_in out share left h =
    let sh : (bal1 + out * den) * n ≡ (bal + put_in * den) * n = ap (λ k. k * (n)) share in
    let lf : out * (n * den) ≡ (b + put_in) * (n * den) = ap (λ k. k * (n * den)) left in
    omega arith

pub own_none_gain : (b g den gain bal bal1 n w m put_in out : ℕ) → bal1 + out * den ≡ bal + put_in * den
    → out ≡ b + put_in → (gain + 11 * bal) * n ≤ ((g + 11 * b) * n + 12 * w + 15 * (n * m)) * den
    → (gain + 11 * bal1) * n ≤ (g * n + 12 * w + 15 * (n * (m + 1))) * den
own_none_gain b g den gain bal bal1 n w m put_in out share left h =
    let sh : (bal1 + out * den) * n ≡ (bal + put_in * den) * n = ap (λ k. k * (n)) share in
    let lf : out * (n * den) ≡ (b + put_in) * (n * den) = ap (λ k. k * (n * den)) left in
    omega arith

-- both sides have the factor n, which is cancelled where it is cited
pub balance_law : (b den bal n w cw m : ℕ) → w ≤ cw * n → bal * n ≤ (b * n + w + n * m) * den
    → bal * n ≤ (b + (cw + m)) * den * n
balance_law b den bal n w cw m up h =
    let first : w * den ≤ cw * n * den = mul-le-mul_right den up in
    omega arith

-- both sides have the factor n, which is cancelled where it is cited
pub gain_law : (b g den gain bal n w cw m : ℕ) → 12 * w ≤ cw * n → b * den ≤ bal
    → (gain + 11 * bal) * n ≤ ((g + 11 * b) * n + 12 * w + 15 * (n * m)) * den
    → gain * n ≤ (g + (cw + 15 * m)) * den * n
gain_law b g den gain bal n w cw m up upper h =
    let first : 12 * w * den ≤ cw * n * den = mul-le-mul_right den up in
    let second : b * den * (11 * n) ≤ bal * (11 * n) = mul-le-mul_right (11 * n) upper in
    omega arith

pub worth_below : (p p1 power h h1 total rest : ℕ) → h ≡ power * h1 → p1 * total ≤ p * (rest * power)
    → p1 * h1 * total ≤ p * h * rest
worth_below p p1 power h h1 total rest split low =
    let first : p1 * total * h1 ≤ p * (rest * power) * h1 = mul-le-mul_right h1 low in
    let same : h * (p * rest) ≡ power * h1 * (p * rest) = ap (λ k. k * (p * rest)) split in
    omega arith

pub worth_near : (p p1 power h h1 total rest : ℕ) → h ≡ power * h1 → 1 ≤ power → p * (rest * power) ≤ p1 * total + total
    → p * h * rest ≤ p1 * h1 * total + h * total
worth_near p p1 power h h1 total rest split some high =
    let first : p * (rest * power) * h1 ≤ (p1 * total + total) * h1 = mul-le-mul_right h1 high in
    let same : h * (p * rest) ≡ power * h1 * (p * rest) = ap (λ k. k * (p * rest)) split in
    let more : 1 * (h1 * total) ≤ power * (h1 * total) = mul-le-mul_right (h1 * total) some in
    let unit : h * total ≡ power * h1 * total = ap (λ k. k * (total)) split in
    omega arith

pub gain_below : (p x h total coll : ℕ) → x * total ≤ coll * p → x * h * total ≤ coll * (p * h)
gain_below p x h total coll low =
    let first : x * total * h ≤ coll * p * h = mul-le-mul_right h low in
    omega arith

pub gain_near : (p x h total coll : ℕ) → coll * p ≤ x * total + total → coll * (p * h) ≤ x * h * total + h * total
gain_near p x h total coll high =
    let first : coll * p * h ≤ (x * total + total) * h = mul-le-mul_right h high in
    omega arith

-- An amount of at most c powers, times the least product n and the reach h, is at most c whole products (p0 * all).
-- all is 10^27; after j changes of scale the power is 10^(9 * j), and h is what is left of all.
pub weight_covers : (a c n p0 power h all : ℕ) → power * h ≡ all → n ≤ p0 → a ≤ c * power → n * a * h ≤ c * (p0 * all)
weight_covers a c n p0 power h all split least up =
    let first : a * (n * h) ≤ c * power * (n * h) = mul-le-mul_right (n * h) up in
    let same : power * h * (c * n) ≡ all * (c * n) = ap (λ k. k * (c * n)) split in
    let second : n * (c * all) ≤ p0 * (c * all) = mul-le-mul_right (c * all) least in
    omega arith

-- power is 10^(9 * (rise - 1)), and all is 10^27; small is a ≤ all, both sides times n
pub little_left : (a p p0 n h power all total rest : ℕ) → h ≤ power → p * (rest * power) ≤ n * total → a * n ≤ n * all
    → n ≤ p0 → a * (p * h) * rest ≤ p0 * all * total
little_left a p p0 n h power all total rest reach low small least =
    let first : h * (a * p * rest) ≤ power * (a * p * rest) = mul-le-mul_right (a * p * rest) reach in
    let second : p * (rest * power) * a ≤ n * total * a = mul-le-mul_right a low in
    let third : a * n * total ≤ n * all * total = mul-le-mul_right total small in
    let fourth : n * (all * total) ≤ p0 * (all * total) = mul-le-mul_right (all * total) least in
    omega arith

-- both sides have the factor total, which is cancelled where it is cited
pub sum_within : (s x p p1 top debt rest total coll : ℕ) → debt + rest ≡ total → coll ≤ 11 * debt → x * total ≤ coll * p
    → p1 * total ≤ p * rest → s + 11 * p ≤ 11 * top → (s + x + 11 * p1) * total ≤ 11 * top * total
sum_within s x p p1 top debt rest total coll whole worth_less low part h =
    let first : coll * p ≤ 11 * debt * p = mul-le-mul_right p worth_less in
    let second : (debt + rest) * p ≡ total * p = ap (λ k. k * (p)) whole in
    let third : (s + 11 * p) * total ≤ 11 * top * total = mul-le-mul_right total h in
    omega arith

-- both sides have the factor total, which is cancelled where it is cited
pub finished_within : (s x p top debt total coll : ℕ) → debt ≤ total → coll ≤ 11 * debt → x * total ≤ coll * p
    → s + 11 * p ≤ 11 * top → (s + x) * total ≤ 11 * top * total
finished_within s x p top debt total coll some worth_less low h =
    let first : coll * p ≤ 11 * debt * p = mul-le-mul_right p worth_less in
    let second : debt * p ≤ total * p = mul-le-mul_right p some in
    let third : (s + 11 * p) * total ≤ 11 * top * total = mul-le-mul_right total h in
    omega arith

-- rest is the collateral less the gas; then cancel debt
pub offset_worth : (debt offset_debt offset_coll rest : ℕ) → offset_coll * debt ≤ rest * offset_debt → rest ≤ 11 * debt
    → offset_coll * debt ≤ 11 * offset_debt * debt
offset_worth debt offset_debt offset_coll rest low ratio =
    let first : rest * offset_debt ≤ 11 * debt * offset_debt = mul-le-mul_right offset_debt ratio in
    omega arith

pub pending_below : (stake u rise num den coll stakes one : ℕ) → rise * stakes ≤ coll * one → u * den ≤ num * one
    → (u + stake * rise) * (den * stakes) ≤ (num * stakes + coll * stake * den) * one
pending_below stake u rise num den coll stakes one low h =
    let first : rise * stakes * (stake * den) ≤ coll * one * (stake * den) = mul-le-mul_right (stake * den) low in
    let second : u * den * stakes ≤ num * one * stakes = mul-le-mul_right stakes h in
    omega arith

pub pending_near : (stake u r rise num den coll stakes one : ℕ) → coll * one ≤ rise * stakes + stakes
    → num * one ≤ (u + r * stake) * den → (num * stakes + coll * stake * den) * one
    ≤ (u + stake * rise + (r + 1) * stake) * (den * stakes)
pending_near stake u r rise num den coll stakes one high h =
    let first : coll * one * (stake * den) ≤ (rise * stakes + stakes) * (stake * den) =
    mul-le-mul_right (stake * den) high in
    let second : num * one * stakes ≤ (u + r * stake) * den * stakes = mul-le-mul_right stakes h in
    omega arith

-- of use for rewards: the upper side needs the unrounded fact h
pub reward_kept : (a v x g s den bal rew q total units : ℕ) → x * total ≤ units * v → a * v * den ≤ bal * q
    → (g * q + a * s) * den ≤ rew * q → (g * q + a * (s + x)) * (den * total) ≤ (rew * total + units * bal) * q
reward_kept a v x g s den bal rew q total units less h k =
    let first : x * total * (a * den) ≤ units * v * (a * den) = mul-le-mul_right (a * den) less in
    let second : a * v * den * units ≤ bal * q * units = mul-le-mul_right units h in
    let third : (g * q + a * s) * den * total ≤ rew * q * total = mul-le-mul_right total k in
    omega arith

-- more is the balance allowance, u is ceil(units * more / total)
pub reward_close : (a v x g s b unit den bal rew q n u c w z lost total units more : ℕ) → bal ≤ (b + more) * den
    → b * q ≤ a * v → units * v ≤ x * total + unit * total → n * a * unit ≤ c * q → units * more ≤ u * total
    → rew * q * n ≤ ((g * q + a * s) * n + (w * n + z + 4 * (n * lost)) * q) * den → (rew * total + units * bal) * q * n
    ≤ ((g * q + a * (s + x)) * n + ((w + u) * n + (z + c) + 4 * (n * lost)) * q) * (den * total)
reward_close a v x g s b unit den bal rew q n u c w z lost total units more short low near weight up h =
    let f1 : rew * q * n * total ≤ ((g * q + a * s) * n + (w * n + z + 4 * (n * lost)) * q) * den * total =
    mul-le-mul_right total h in
    let f2 : bal * (units * q * n) ≤ (b + more) * den * (units * q * n) = mul-le-mul_right (units * q * n) short in
    let f3 : b * q * (den * units * n) ≤ a * v * (den * units * n) = mul-le-mul_right (den * units * n) low in
    let f4 : units * v * (a * den * n) ≤ (x * total + unit * total) * (a * den * n) =
    mul-le-mul_right (a * den * n) near in
    let f5 : n * a * unit * (den * total) ≤ c * q * (den * total) = mul-le-mul_right (den * total) weight in
    let f6 : units * more * (den * q * n) ≤ u * total * (den * q * n) = mul-le-mul_right (den * q * n) up in
    omega arith
