-- Both versions of the header meet what a version has to.
use Rattle.std.proofs.Common.{◌≡◌, ℕ, List, Bool, true, false, if◌then◌else◌, inl, inr, refl, sym, subst, arith}
use Rattle.std.specs.Str.{bytes_eq}
use Rattle.liq_types.specs.Image.{IsLimit}
use Rattle.liq_disk_header.specs.Layout.{IsVersion, version_1, version_2, layout_on, layout_with, name_on}

pub is_version_1 : IsVersion version_1
is_version_1 = record {
  named = refl;
  fields = omega arith;
  whole = omega arith;
  limit = inl refl;
  by_name = refl;
  by_limit = refl;
}

pub is_version_2 : IsVersion version_2
is_version_2 = record {
  named = refl;
  fields = omega arith;
  whole = omega arith;
  limit = inr refl;
  by_name = refl;
  by_limit = refl;
}

-- a limit that may be is the one of its version
pub record HasVersion (limit : ℕ) : Type 0 where
  pub version : IsVersion (layout_with limit)
  pub limit_is : limit ≡ (layout_with limit).limit

pub has_version : (limit : ℕ) → IsLimit limit → HasVersion limit
has_version limit (inl first) = subst HasVersion (sym first) (record { version = is_version_1; limit_is = refl })
has_version limit (inr second) = subst HasVersion (sym second) (record { version = is_version_2; limit_is = refl })

-- each header is of one of them
pub one_version : (bytes : List ℕ) → IsVersion (layout_on bytes)
one_version bytes = either (bytes_eq (name_on bytes) version_2.name) where
  either : (b : Bool) → IsVersion (if b then version_2 else version_1)
  either true = is_version_2
  either false = is_version_1
