-- The state of a tag (C-11): what it claims, and that it fits its class.
use Prim.Native.Nat.{ℕ, ◌+◌, ◌*◌, ◌/◌}
use mathlib.Core.Path.{◌≡◌, refl}
use mathlib.Core.Bool.{Bool, true, false}
use lib.Dec.{eqb}
use Rattle.format.specs.Tests.{pick}
use Rattle.format.specs.FileAndTags.{Class, opaque, end, container, known, is_read}
use Rattle.format.specs.TableOfNumbers.{is_opaque}
use Rattle.format.specs.WritingFiles.{claims, fits_state}

-- a tag is opaque or read
read_or_not : (P : ℕ → Type 0) → P 0 → P 1 → (cl : Class) → P (is_read cl)
read_or_not P h k opaque = h
read_or_not P h k end = k
read_or_not P h k (container y) = k
read_or_not P h k (known y) = k

-- the state of a class, with or without the 2, fits it
pub state_fits : (cl : Class) (claim : Bool) → fits_state cl (is_read cl + pick claim 2 0) ≡ true
state_fits cl true = read_or_not (λ n. eqb (n + 2) (n + pick (claims (n + 2)) 2 0) ≡ true) refl refl cl
state_fits cl false = read_or_not (λ n. eqb (n + 0) (n + pick (claims (n + 0)) 2 0) ≡ true) refl refl cl

-- and claims what it says
pub state_claims : (cl : Class) (claim : Bool) → claims (is_read cl + pick claim 2 0) ≡ claim
state_claims cl true = read_or_not (λ n. claims (n + 2) ≡ true) refl refl cl
state_claims cl false = read_or_not (λ n. claims (n + 0) ≡ false) refl refl cl

-- it is even where the tag is opaque
pub state_opaque : (cl : Class) (claim : Bool) → is_opaque (is_read cl + pick claim 2 0) ≡ eqb (is_read cl) 0
state_opaque cl true = read_or_not (λ n. is_opaque (n + 2) ≡ eqb n 0) refl refl cl
state_opaque cl false = read_or_not (λ n. is_opaque (n + 0) ≡ eqb n 0) refl refl cl

-- without the 1 it is that of an opaque tag with the same header
pub state_veiled : (cl : Class) (claim : Bool) → 2 * ((is_read cl + pick claim 2 0) / 2) ≡ is_read opaque + pick claim 2 0
state_veiled cl true = read_or_not (λ n. 2 * ((n + 2) / 2) ≡ 2) refl refl cl
state_veiled cl false = read_or_not (λ n. 2 * ((n + 0) / 2) ≡ 0) refl refl cl
