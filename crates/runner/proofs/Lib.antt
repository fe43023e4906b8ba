mod Octals
