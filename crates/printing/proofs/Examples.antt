-- The definition computed for a few bit patterns: the text is what Java's to_hex_string and toString give for them. Assumes nothing.
use mathlib.Core.List.{[], ◌∷◌}
use mathlib.Core.Path.{◌≡◌, refl}
use Rattle.definition.specs.Basics.{concat}
use Rattle.definition.specs.Ascii.{ascii, digits, decimal, hex_digit, hex}
use Rattle.printing.specs.Numbers.{escaped, quoted, signed, hex_of, fraction, power, scaled, magnitude, minus, to_hex_string, float, double}

unfoldable all_of_it : Unit {0}
unfolding ascii digits decimal hex_digit hex concat escaped quoted signed hex_of fraction power scaled magnitude minus to_hex_string float double
all_of_it = tt

float_zero : float 0x00000000 ≡ ascii "0x0.0p0"
unfolding all_of_it
float_zero = refl

float-minus-zero : float 0x80000000 ≡ ascii "-0x0.0p0"
unfolding all_of_it
float-minus-zero = refl

float_one : float 0x3f800000 ≡ ascii "0x1.0p0"
unfolding all_of_it
float_one = refl

float-minus-three : float 0xc0400000 ≡ ascii "-0x1.8p1"
unfolding all_of_it
float-minus-three = refl

float-pi : float 0x40490fdb ≡ ascii "0x1.921fb6p1"
unfolding all_of_it
float-pi = refl

float-least : float 0x00000001 ≡ ascii "0x0.000002p-126"
unfolding all_of_it
float-least = refl

float-last-subnormal : float 0x007fffff ≡ ascii "0x0.fffffep-126"
unfolding all_of_it
float-last-subnormal = refl

float-greatest : float 0x7f7fffff ≡ ascii "0x1.fffffep127"
unfolding all_of_it
float-greatest = refl

float-minus-infinity : float 0xff800000 ≡ ascii "-Infinity"
unfolding all_of_it
float-minus-infinity = refl

float-nan : float 0xffc00000 ≡ ascii "NaN"
unfolding all_of_it
float-nan = refl

double-minus-zero : double 0x8000000000000000 ≡ ascii "-0x0.0p0"
unfolding all_of_it
double-minus-zero = refl

double-tenth : double 0x3fb999999999999a ≡ ascii "0x1.999999999999ap-4"
unfolding all_of_it
double-tenth = refl

double-pi : double 0x400921fb54442d18 ≡ ascii "0x1.921fb54442d18p1"
unfolding all_of_it
double-pi = refl

double-least : double 0x0000000000000001 ≡ ascii "0x0.0000000000001p-1022"
unfolding all_of_it
double-least = refl

double-last-subnormal : double 0x000fffffffffffff ≡ ascii "0x0.fffffffffffffp-1022"
unfolding all_of_it
double-last-subnormal = refl

double-greatest : double 0x7fefffffffffffff ≡ ascii "0x1.fffffffffffffp1023"
unfolding all_of_it
double-greatest = refl

double-infinity : double 0x7ff0000000000000 ≡ ascii "Infinity"
unfolding all_of_it
double-infinity = refl

double-nan : double 0xfff8000000000000 ≡ ascii "NaN"
unfolding all_of_it
double-nan = refl

int_least : signed 0x80000000 0x80000000 ≡ ascii "-2147483648"
unfolding all_of_it
int_least = refl

int_minus-one : signed 0x80000000 0xffffffff ≡ ascii "-1"
unfolding all_of_it
int_minus-one = refl

int_greatest : signed 0x80000000 0x7fffffff ≡ ascii "2147483647"
unfolding all_of_it
int_greatest = refl

long_least : signed 0x8000000000000000 0x8000000000000000 ≡ ascii "-9223372036854775808"
unfolding all_of_it
long_least = refl

long_minus-ten : signed 0x8000000000000000 0xfffffffffffffff6 ≡ ascii "-10"
unfolding all_of_it
long_minus-ten = refl

bits : hex_of 8 0x00c0ffee ≡ ascii "00c0ffee"
unfolding all_of_it
bits = refl

in_quotes : quoted (0x61 ∷ 0x22 ∷ 0x5c ∷ 0x0a ∷ 0x7e ∷ 0x7f ∷ 0xe9 ∷ []) ≡ ascii "\"a\\\"\\\\\\x0a~\\x7f\\xe9\""
unfolding all_of_it
in_quotes = refl
